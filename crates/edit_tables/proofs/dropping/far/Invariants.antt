use Rattle.std.proofs.Common.{◌≡◌, drop, replicate}
use Rattle.edit_tables.specs.Swept.{furthest}
use Rattle.edit_tables.proofs.dropping.far.Given as goal

abbrev pub invariant-loop-act : goal.invariant-loop-act
invariant-loop-act l =
    furthest (drop l.act-index l.acts) l.ends.items ≡ furthest l.acts (replicate l.fn.count 0)
