use Rattle.std.proofs.Common.{◌≡◌, ◌+◌, ◌-◌}
use Rattle.edit_legal.specs.Dropped.{are_free}
use Rattle.edit_legal.proofs.drops.are_free.Given as goal

abbrev pub invariant-loop : goal.invariant-loop
invariant-loop l =
    (are_free l.needed l.dropped l.at (l.count - l.counter)
    ≡ are_free l.needed l.dropped l.from l.count)
    × (l.at ≡ l.from + l.counter)
