use Rattle.std.proofs.Common.{◌≡◌, drop, map}
use Rattle.class_model.specs.declared.op.Case.{Case}
use Rattle.edit_passes.specs.Found.{with_all}
use Rattle.edit_passes.proofs.finding.find_cases.Given as goal

abbrev pub invariant-loop-case : goal.invariant-loop-case
invariant-loop-case l =
    with_all (map (λ (c : Case). c.to) (drop l.case-index l.cases)) l.found
    ≡ with_all (map (λ (c : Case). c.to) l.cases) l.fn.found
