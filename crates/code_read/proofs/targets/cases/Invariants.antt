use Rattle.std.proofs.Common.{◌≡◌, drop}
use Rattle.code_read.specs.Targets.{collected, case_aimed}
use Rattle.code_read.specs.bodies.Targets.{aim_in}
use Rattle.code_read.proofs.Collecting.{onto}
use Rattle.code_read.proofs.targets.cases.Given as goal

abbrev pub invariant-loop-next : goal.invariant-loop-next
invariant-loop-next l = onto l.cases (collected (case_aimed (aim_in l.table) l.at) (drop l.next-index l.matches))
    ≡ collected (case_aimed (aim_in l.table) l.at) l.matches
