use Rattle.std.proofs.Common.{◌≡◌, ◌≤◌, reverse, length, take}
use Rattle.jvm_model.specs.Stack.{many, many_above}
use Rattle.run_values.proofs.stack.Stack.pop_many.Given as goal

abbrev pub invariant-loop-left : goal.invariant-loop-left
invariant-loop-left l = record {
  within : l.left ≤ length l.kinds;
  same : many_above (reverse (take l.left l.kinds)) (reverse l.taken.items) l.self ≡ many l.kinds l.fn.self;
}

abbrev pub decreases-loop-left : goal.decreases-loop-left
decreases-loop-left l = l.left
