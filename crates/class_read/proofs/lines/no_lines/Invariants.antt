use Rattle.std.proofs.Common.{◌≡◌, ℕ, length, None}
use Rattle.frame_read.specs.bodies.Numbers.{found}
use Rattle.class_read.proofs.lines.no_lines.Given as goal

abbrev pub invariant-loop : goal.invariant-loop
invariant-loop l = (length l.lines.items ≡ l.counter) × ((offset : ℕ) → found l.lines.items offset ≡ None)
