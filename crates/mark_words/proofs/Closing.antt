-- The marks read from the words of a quiet table.
use Rattle.std.proofs.Common.{◌≡◌, ℕ, zero, suc, ◌+◌, ◌/◌, ◌%◌, ◌^◌, ◌<◌, Bool, true, false}
use Rattle.std.proofs.Common.{List, [], ◌∷◌, ◌++◌, length, get_or, ⊎_elim, subst, sym, ◌∙◌, ap}
use Rattle.std.proofs.Common.{arith, eqb, bit_and}
use Rattle.std.proofs.lemmas.Bool.{cases_eq, cases_lt}
use Rattle.std.proofs.lemmas.List.{get_or_append_left, get_or_push, get_or_past, length_push}
use Rattle.std.proofs.lemmas.Nat.Bits.{shr_and_one}
use mathlib.Core.Option.{some, some-injective, some-ne-none}
use lib.ListN.{get_elem?}
use Rattle.atomic_table.specs.Table.{State}
use Rattle.mark_machine.specs.declared.machine.View.{View}
use Rattle.mark_core.specs.Marks.{Marks, Closed, set_of}
use Rattle.mark_machine.proofs.Counts.{bit_false}
use Rattle.mark_words.specs.declared.rule.Plan.{Plan}
use Rattle.mark_words.specs.Words.{mark_word, has_bit}
use Rattle.mark_words.specs.Rule.{Ruled}

pub word_read : (l : List ℕ) (i w : ℕ) → get_elem? l i ≡ some w → get_or l i 0 ≡ w
word_read [] i w e = absurd (some-ne-none w (sym e))
word_read (x ∷ xs) zero w e = some-injective x w e
word_read (x ∷ xs) (suc i) w e = word_read xs i w e

pub bit_read : (w x : ℕ) → eqb (bit_and (w / 2 ^ (x % 64)) 1) 1 ≡ has_bit w x
bit_read w x = ap (λ k. eqb k 1) (shr_and_one w (x % 64))

pub marks_more : (ms new : List Bool) (words : List ℕ) (x w : ℕ) → length ms ≡ x
    → ((k : ℕ) → k < x → set_of ms k ≡ has_bit (get_or words (mark_word k) 0) k)
    → get_elem? words (mark_word x) ≡ some w → new ≡ ms ++ eqb (bit_and (w / 2 ^ (x % 64)) 1) 1 ∷ []
    → (length new ≡ x + 1) × ((k : ℕ) → k < x + 1 → set_of new k ≡ has_bit (get_or words (mark_word k) 0) k)
marks_more ms new words x w len old at e =
    let b : Bool = eqb (bit_and (w / 2 ^ (x % 64)) 1) 1 in (
      (let l : length (ms ++ b ∷ []) ≡ length ms + 1 = length_push ms b in
          let n : length new ≡ length (ms ++ b ∷ []) = ap length e in omega (arith, l, n, len)),
      λ k lt. ⊎_elim
          (λ same. subst (λ j. set_of new j ≡ has_bit (get_or words (mark_word j) 0) j) (sym same)
          (ap (λ l. get_or l x false) e ∙ (get_or_push ms b false x len
          ∙ (bit_read w x ∙ ap (λ n. has_bit n x) (sym (word_read words (mark_word x) w at))))))
          (λ ne. ap (λ l. get_or l k false) e ∙ (get_or_append_left ms (b ∷ []) false k (omega (arith, lt, ne, len))
          ∙ old k (omega (arith, lt, ne))))
          (cases_eq k x),
    )

pub close_marks : (p : Plan) (s : State (Unit {0}) View) (id : ℕ) (v : View) → Ruled p s → get_elem? s.views id
    ≡ some v → v.quiet ≡ true → (ms : List Bool) → length ms ≡ p.system.value.n
    → ((x : ℕ) → x < p.system.value.n → set_of ms x ≡ has_bit (get_or s.words (mark_word x) 0) x)
    → Marks p.system.value ms
close_marks p s id v rule at quiet ms len bits =
    let marked : ℕ → Bool = λ x. has_bit (get_or s.words (mark_word x) 0) x in
    let same : (x : ℕ) → set_of ms x ≡ marked x = λ x. ⊎_elim (bits x)
    (λ ge. get_or_past ms x false (omega (arith, ge, len))
    ∙ sym (bit_false (marked x) (λ h. (let lt : x < p.system.value.n = (rule.inv.within x h).1 in
    omega (arith, lt, ge)))))
    (cases_lt x p.system.value.n) in
    record {
      count = len;
      closed = subst (Closed p.system.value) (λ i x. sym (same x) i) (rule.inv.quiet id v at quiet).1;
      least = λ x h. (rule.inv.within x (sym (same x) ∙ h)).0;
    }
