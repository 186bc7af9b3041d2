-- A text is cut at the last byte of a kind.
use Rattle.std.proofs.Common.{◌≡◌, ℕ, zero, suc, ◌+◌, ◌-◌, ◌<◌, ◌≤◌, Bool, true, false, eqb, eq-eqb, ne_eqb, List, [], ◌∷◌}
use Rattle.std.proofs.Common.{length, get_or, take, drop, Option, Some, None, MatchOption, Bor, refl, sym, ap, ◌∙◌, arith}
use Rattle.std.proofs.Common.{get_or-drop, length-drop}
use Rattle.std.specs.Str.Pattern.{RFindsChar}
use Rattle.std.proofs.lemmas.Str.{len_utf8_ascii}
use Rattle.std.proofs.lemmas.Str.Pattern.{NoCharPasses-char}
use Rattle.text_lines.specs.Cut.{parts_copied}
use Rattle.command_words.specs.Entries.{cut_last}

last_none : (byte : ℕ) (text : List ℕ) → ((k : ℕ) → k < length text → get_or text k 0 ≡ byte → ⊥)
    → cut_last byte text ≡ None
unfolding cut_last
last_none byte [] none = refl
last_none byte (b ∷ text) none =
    let rest = last_none byte text (λ k below e. none (suc k) (omega (arith, below)) e) in
    let other : eqb b byte ≡ false = ne_eqb b byte (none 0 (omega arith)) in
    rw (rest, other) refl

last_some : (byte : ℕ) (text : List ℕ) (i : ℕ) → i < length text → get_or text i 0 ≡ byte
    → ((k : ℕ) → i < k → k < length text → get_or text k 0 ≡ byte → ⊥)
    → cut_last byte text ≡ Some (take i text, drop (suc i) text)
unfolding cut_last
last_some byte [] i within here later = absurd (omega (arith, within))
last_some byte (b ∷ text) zero within here later =
    let rest = last_none byte text (λ k below e. later (suc k) (omega arith) (omega (arith, below)) e) in
    let same : eqb b byte ≡ true = eq-eqb b byte here in
    rw (rest, same) refl
last_some byte (b ∷ text) (suc i) within here later =
    let rest = last_some byte text i (omega (arith, within)) here
    (λ k above below e. later (suc k) (omega (arith, above)) (omega (arith, below)) e) in
    rw rest refl

-- what stands before and behind the last dot
pub last_split : (text : List ℕ) (r : Option (Bor (List ℕ) × Bor (List ℕ)))
    → MatchOption r (RFindsChar 46 text None)
    (λ x. (i : ℕ) × (j : ℕ) × RFindsChar 46 text (Some (i, j)) × (x.0.now ≡ take i text)
    × (x.1.now ≡ drop j text) × (i ≤ j) × (length x.0.now ≡ i) × (length x.1.now + j ≡ length text))
    → parts_copied r ≡ cut_last 46 text
last_split text None h =
    sym (last_none 46 text (λ k below e. NoCharPasses-char 46 text k h (omega arith) below e))
last_split text (Some x) h =
    let i = h.0 in
    let j = h.1 in
    let next : j ≡ suc i = omega (arith, h.2.1.ends, len_utf8_ascii 46 (omega arith)) in
    let found = last_some 46 text i (omega (arith, h.7, next)) (h.2.1.byte (omega arith))
    (λ k a l e.
    let back : j + (k - j) ≡ k = omega (arith, next, a) in
    NoCharPasses-char 46 (drop j text) (k - j) h.2.0 (omega arith) (omega (arith, next, a, l, length-drop j text))
    (get_or-drop j text (k - j) 0 ∙ ap (λ n. get_or text n 0) back ∙ e)) in
    ap (λ (before : List ℕ). let o : Option (List ℕ × List ℕ) = Some (before, x.1.now) in o) h.3
    ∙ ap (λ (behind : List ℕ). let o : Option (List ℕ × List ℕ) = Some (take i text, behind) in o)
    (h.4 ∙ ap (λ (n : ℕ). drop n text) next)
    ∙ sym found
