use Rattle.std.proofs.Common.{◌≡◌, ◌+◌, ◌++◌, drop, map}
use Rattle.class_model.specs.declared.op.Case.{Case}
use Rattle.code_edit.specs.Passes.{aims_on}
use Rattle.edit_passes.specs.Chains.{ends_in}
use Rattle.edit_passes.proofs.jumps.aim_cases.Given as goal

abbrev pub invariant-loop-case : goal.invariant-loop-case
invariant-loop-case l =
    (l.acts
    ++ aims_on (ends_in l.table l.code) l.at l.which
    (map (λ (c : Case). c.to) (drop l.case-index l.cases))
    ≡ l.fn.acts
    ++ aims_on (ends_in l.table l.code) l.at 1 (map (λ (c : Case). c.to) l.cases))
    × (l.which ≡ l.case-index + 1)
