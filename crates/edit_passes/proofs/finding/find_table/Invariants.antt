use Rattle.std.proofs.Common.{◌≡◌, drop}
use Rattle.edit_passes.specs.Found.{with_all}
use Rattle.edit_passes.proofs.finding.find_table.Given as goal

abbrev pub invariant-loop-case : goal.invariant-loop-case
invariant-loop-case l =
    with_all (drop l.case-index l.cases) l.found ≡ with_all l.cases l.fn.found
