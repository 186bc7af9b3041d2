use Rattle.std.proofs.Common.{◌≡◌, drop, map}
use Rattle.class_model.specs.declared.op.Case.{Case}
use Rattle.edit_tables.specs.Marks.{marked}
use Rattle.edit_tables.proofs.marks.mark_cases.Given as goal

abbrev pub invariant-loop-case : goal.invariant-loop-case
invariant-loop-case l =
    marked (map (λ (c : Case). c.to) (drop l.case-index l.cases)) l.marks.items
    ≡ marked (map (λ (c : Case). c.to) l.cases) l.fn.marks.items
