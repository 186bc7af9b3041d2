use Rattle.std.proofs.Common.{◌≡◌, ◌+◌, drop, map}
use Rattle.class_model.specs.declared.op.Case.{Case}
use Rattle.code_edit.specs.Rewriting.{map_from}
use Rattle.edit_tables.specs.Aimed.{aimed}
use Rattle.edit_tables.specs.Marks.{marked}
use Rattle.edit_legal.proofs.aiming.mark_cases.Given as goal

abbrev pub invariant-loop-case : goal.invariant-loop-case
invariant-loop-case l =
    (marked
    (map (λ (c : Case). c.to)
    (map_from (λ k (c : Case). record c { to = aimed l.aims l.at k c.to }) l.which
    (drop l.case-index l.cases))) l.marks.items
    ≡ marked
    (map (λ (c : Case). c.to)
    (map_from (λ k (c : Case). record c { to = aimed l.aims l.at k c.to }) 1 l.cases))
    l.fn.marks.items)
    × (l.which ≡ l.case-index + 1)
