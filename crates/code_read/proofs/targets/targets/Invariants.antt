use Rattle.std.proofs.Common.{◌≡◌, drop}
use Rattle.class_model.specs.InstructionMeaning.{aimed}
use Rattle.code_read.specs.Targets.{collected}
use Rattle.code_read.specs.bodies.Targets.{aim_in}
use Rattle.code_read.proofs.Collecting.{onto}
use Rattle.code_read.proofs.targets.targets.Given as goal

abbrev pub invariant-loop-offset : goal.invariant-loop-offset
invariant-loop-offset l = onto l.targets (collected (aimed (aim_in l.table) l.at) (drop l.offset-index l.offsets))
    ≡ collected (aimed (aim_in l.table) l.at) l.offsets
