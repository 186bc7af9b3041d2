use Rattle.class_pool.specs.bodies.Filling.{IsFilling}
use Rattle.class_pool.proofs.hierarchy.superinterfaces.fill_in_order.Given as goal

abbrev pub invariant-loop-place : goal.invariant-loop-place
invariant-loop-place l = IsFilling l.classes l.filling
