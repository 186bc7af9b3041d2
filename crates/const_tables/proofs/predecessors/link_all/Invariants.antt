use Rattle.std.proofs.Common.{◌≡◌, drop, length}
use Rattle.const_tables.specs.Predecessors.{linked}
use Rattle.const_tables.proofs.predecessors.link_all.Given as goal

abbrev pub invariant-loop-ins : goal.invariant-loop-ins
invariant-loop-ins l =
    (linked (length l.fn.ins) l.at (drop l.ins-index l.fn.ins) l.lists.items
    ≡ linked (length l.fn.ins) 0 l.fn.ins l.initial.lists.items)
    × (l.at ≡ l.ins-index)
