-- Answers of `MarkTable::close`: what its calls ask for, and what it promises.
use Rattle.std.proofs.Common.{◌≡◌, ◌<◌, ℕ, ◌∙◌, sym, subst, get_or, List}
use Rattle.mark_core.specs.Marks.{Marks}
use Rattle.mark_words.specs.Seats.{system_of}
use Rattle.mark_words.specs.Words.{mark_word, has_bit}
use Rattle.mark_words.proofs.Closing.{close_marks}
use Rattle.mark_words.proofs.table.MarkTable.close.Goals as goal

pub returns : goal.returns
returns c =
    let final = c.close_with-closed.ensures.values.2 in
    let n = c.args.self.items in
    let bits = c.in_ok-marks.ensures.bits in
    subst (Marks (system_of c.args.self)) (sym c.from_vec.ensures)
    (close_marks c.args.self.table.shared.key final.0 c.args.seat.id c.args.seat.me.0 final.1.0 final.1.1
    c.requires.quiet c.in_ok-marks.field-0.items (c.in_ok-marks.ensures.count ∙ n)
    (λ x lt. bits x (subst (λ k. x < k) (sym n) lt) ∙ subst (λ (ws : List ℕ). has_bit (get_or ws (mark_word x) 0)
    x ≡ has_bit (get_or final.0.words (mark_word x) 0) x) final.2
    (λ i. has_bit (get_or final.0.words (mark_word x) 0) x)))
