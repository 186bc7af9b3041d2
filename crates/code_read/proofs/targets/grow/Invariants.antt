use Rattle.std.proofs.Common.{◌≡◌, ◌≤◌, ℕ, length}
use Rattle.code_read.specs.bodies.Targets.{found}
use Rattle.code_read.proofs.targets.grow.Given as goal

abbrev pub invariant-loop : goal.invariant-loop
invariant-loop l = ((offset : ℕ) → found l.table.items offset ≡ found l.fn.table.items offset)
    × (l.counter ≤ length l.table.items)
