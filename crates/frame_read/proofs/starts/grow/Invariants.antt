use Rattle.std.proofs.Common.{◌≡◌, ◌≤◌, ℕ, length}
use Rattle.frame_read.specs.bodies.Numbers.{found}
use Rattle.frame_read.proofs.starts.grow.Given as goal

abbrev pub invariant-loop : goal.invariant-loop
invariant-loop l =
    ((offset : ℕ) → found l.table.items offset ≡ found l.fn.table.items offset) × (length l.table.items ≡ l.counter)
    × (length l.fn.table.items ≤ 4294967296 → l.count ≤ 4294967296 → length l.table.items ≤ 4294967296)
