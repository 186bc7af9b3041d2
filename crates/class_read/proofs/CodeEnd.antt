-- The end of a code, among the places at which instructions begin.
use Rattle.std.proofs.Common.{◌≡◌, ℕ, ◌+◌, Bool, true, false, eqb, List, [], ◌∷◌, ◌++◌, length, Some, None, refl, sym}
use Rattle.std.proofs.Common.{ap, ◌∙◌, arith}
use Rattle.std.specs.Prelude.{nat_eq}
use Rattle.std.specs.List.{position_from}
use Rattle.std.proofs.lemmas.Bool.{eq-eqb}
use Rattle.std.proofs.lemmas.Iterator.Adapters.{position_from-zero}
use Rattle.class_model.specs.ReadingCodeAttribute.{begins}

found_by : (k : ℕ) (x : ℕ) (xs : List ℕ) (end : ℕ) (b : Bool) → eqb end x ≡ b
    → position_from (nat_eq end) k (x ∷ xs) ≡ None
    → (position_from (nat_eq end) (k + 1) xs ≡ None
    → position_from (nat_eq end) (k + 1) (xs ++ end ∷ []) ≡ Some (k + 1 + length xs))
    → position_from (nat_eq end) k ((x ∷ xs) ++ end ∷ []) ≡ Some (k + length (x ∷ xs))
found_by k x xs end true e h others = absurd (let none : Some k ≡ None = rw e at h in cc)
found_by k x xs end false e h others = rw e
    (others (rw e at h) ∙ ap (λ (n : ℕ). Some n) (let z : k + 1 + length xs ≡ k + length (x ∷ xs) = omega arith in z))

found_from : (k : ℕ) (xs : List ℕ) (end : ℕ) → position_from (nat_eq end) k xs ≡ None
    → position_from (nat_eq end) k (xs ++ end ∷ []) ≡ Some (k + length xs)
found_from k [] end h =
    let same : eqb end end ≡ true = eq-eqb end end refl in
    rw same (ap (λ (n : ℕ). Some n) (let z : k ≡ k + 0 = omega arith in z))
found_from k (x ∷ xs) end h = found_by k x xs end (eqb end x) refl h (found_from (k + 1) xs end)

-- where no instruction begins at the end of the code, it is the place behind the last
pub is_end : (starts : List ℕ) (count end offset : ℕ) → count ≡ length starts → begins starts offset ≡ None
    → offset ≡ end → Some count ≡ begins (starts ++ end ∷ []) offset
is_end starts count end offset counted none same =
    let h : position_from (nat_eq end) 0 starts ≡ None = sym (position_from-zero (nat_eq end) starts)
    ∙ ap (begins starts) (sym same) ∙ none in
    ap (λ (n : ℕ). Some n) (let z : count ≡ 0 + length starts = omega (arith, counted) in z)
    ∙ sym (ap (begins (starts ++ end ∷ [])) same ∙ position_from-zero (nat_eq end) (starts ++ end ∷ [])
    ∙ found_from 0 starts end h)
