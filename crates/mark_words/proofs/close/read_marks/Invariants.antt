use Rattle.std.proofs.Common.{◌≡◌, ◌<◌, ℕ, length, get_or}
use Rattle.std.specs.Mem.Slots.{slots_items}
use Rattle.mark_core.specs.Marks.{set_of}
use Rattle.mark_words.specs.Words.{mark_word, has_bit}
use Rattle.mark_words.proofs.close.read_marks.Given as goal

abbrev pub invariant-loop-x : goal.invariant-loop-x
invariant-loop-x l = (length l.marks.items ≡ l.x) × ((k : ℕ) → k < l.x → set_of l.marks.items k
    ≡ has_bit (get_or (slots_items l.closed.words) (mark_word k) 0) k)
