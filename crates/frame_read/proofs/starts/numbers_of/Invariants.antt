use Rattle.std.proofs.Common.{◌≡◌, ◌≤◌, ℕ, drop, length}
use Rattle.std.specs.Prelude.{nat_eq}
use Rattle.std.specs.List.{position_from}
use Rattle.frame_read.specs.bodies.Numbers.{found, first_of_two}
use Rattle.frame_read.proofs.starts.numbers_of.Given as goal

abbrev pub invariant-loop-number : goal.invariant-loop-number
invariant-loop-number l =
    ((offset : ℕ) → first_of_two (found l.table.items offset)
    (position_from (nat_eq offset) l.number (drop l.number l.starts))
    ≡ position_from (nat_eq offset) 0 l.starts)
    × (length l.table.items ≤ 4294967296)
