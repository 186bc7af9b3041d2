use Rattle.std.proofs.Common.{◌≡◌, ◌++◌}
use Rattle.set_shrink.specs.Order.{in_order}
use Rattle.set_shrink.proofs.order.in_order.Given as goal

abbrev pub invariant-loop-class : goal.invariant-loop-class
invariant-loop-class l = l.ordered ++ l.class-iterator ≡ in_order l.fn.classes
