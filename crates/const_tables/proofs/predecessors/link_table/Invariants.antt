use Rattle.std.proofs.Common.{◌≡◌, drop}
use Rattle.const_tables.specs.Predecessors.{with_links}
use Rattle.const_tables.proofs.predecessors.link_table.Given as goal

abbrev pub invariant-loop-case : goal.invariant-loop-case
invariant-loop-case l =
    with_links l.from (drop l.case-index l.cases) l.lists.items
    ≡ with_links l.from l.cases l.initial.lists.items
