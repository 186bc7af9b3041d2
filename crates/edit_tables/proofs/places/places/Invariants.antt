use Rattle.std.proofs.Common.{◌≡◌, ◌≤◌, ◌++◌, drop}
use Rattle.edit_tables.specs.Places.{counts_from}
use Rattle.edit_tables.proofs.places.places.Given as goal

abbrev pub invariant-loop-lives : goal.invariant-loop-lives
invariant-loop-lives l =
    (l.places.items ++ counts_from l.count
    (drop l.lives-index l.fn.lives) ≡ counts_from 0 l.fn.lives)
    × (l.count ≤ l.lives-index)
