use Rattle.std.proofs.Common.{◌≡◌, ◌-◌}
use Rattle.class_read.specs.bodies.PassedOver.{attributes_passed}
use Rattle.class_read.proofs.passed_over.pass_attributes.Given as goal

abbrev pub invariant-loop : goal.invariant-loop
invariant-loop l = attributes_passed (l.count - l.counter) l.cursor ≡ attributes_passed l.count l.fn.cursor
