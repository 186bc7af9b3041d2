use Rattle.std.proofs.Common.{◌≡◌, ◌≤◌, ◌+◌, ℕ, List, length, drop, None}
use Rattle.class_model.specs.CanonicalClass.{line_rows_from}
use Rattle.class_write.proofs.lines.line_count.Given as goal

abbrev pub invariant-loop-instruction : goal.invariant-loop-instruction
invariant-loop-instruction l =
    ((all : List ℕ) → l.count + length (line_rows_from l.before all l.instruction-index
    (drop l.instruction-index l.ins)) ≡ length (line_rows_from None all 0 l.ins))
    × (l.count ≤ l.instruction-index)
