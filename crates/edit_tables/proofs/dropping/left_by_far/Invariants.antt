use Rattle.std.proofs.Common.{◌≡◌, ◌++◌, drop}
use Rattle.edit_tables.specs.Swept.{swept}
use Rattle.edit_tables.proofs.dropping.left_by_far.Given as goal

abbrev pub invariant-loop-furthest : goal.invariant-loop-furthest
invariant-loop-furthest l =
    (l.left.items ++ swept l.end l.at (drop l.furthest-index l.ends) ≡ swept 0 0 l.ends)
    × (l.at ≡ l.furthest-index)
