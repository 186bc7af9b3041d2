use Rattle.class_rename.specs.bodies.Cut.{AreCut}
use Rattle.class_rename.proofs.frames.are_cut.Given as goal

abbrev pub invariant-loop-number : goal.invariant-loop-number
invariant-loop-number l = AreCut l.number l.frames
