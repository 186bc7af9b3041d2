use Rattle.std.proofs.Common.{◌≡◌, drop, map}
use Rattle.class_model.specs.declared.op.Case.{Case}
use Rattle.const_tables.specs.Predecessors.{with_links}
use Rattle.const_tables.proofs.predecessors.link_cases.Given as goal

abbrev pub invariant-loop-case : goal.invariant-loop-case
invariant-loop-case l =
    with_links l.from (map (λ (c : Case). c.to) (drop l.case-index l.cases)) l.lists.items
    ≡ with_links l.from (map (λ (c : Case). c.to) l.cases) l.initial.lists.items
