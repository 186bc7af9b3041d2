use Rattle.std.proofs.Common.{◌≡◌, length}
use Rattle.jvm_model.specs.Initialisation.{prepare}
use Rattle.run_machine.specs.bodies.Firsts.{Prepared}
use Rattle.run_machine.proofs.initialising.next_due.Given as goal

abbrev pub invariant-loop-first : goal.invariant-loop-first
invariant-loop-first g l = Prepared (g.S.Shapes.shape l.shapes) l.marks
    (λ w class ws. prepare (g.S.Shapes.shape l.shapes) w class l.firsts ws
    ≡ prepare (g.S.Shapes.shape l.shapes) w class l.fn.firsts ws)

abbrev pub decreases-loop-first : goal.decreases-loop-first
decreases-loop-first g l = length l.firsts
