-- Two lists of units, compared from a place on.
use Rattle.std.proofs.Common.{◌≡◌, ℕ, pos, ◌-ℤ◌, ◌-◌, ◌≤◌, List, [], ◌∷◌}
use Rattle.std.proofs.Common.{length, drop, refl, arith, ◌∙◌, ◌⊎◌, inl, inr, suc, length-drop}
use Rattle.std.proofs.lemmas.Int.{ints}
use Rattle.jvm_model.specs.Library.{comparison}

one_ended : (us vs : List ℕ) → (length us ≡ 0) ⊎ (length vs ≡ 0) → comparison us vs ≡ pos (length us) -ℤ pos (length vs)
one_ended [] vs h = refl
one_ended (u ∷ us) [] h = refl
one_ended (u ∷ us) (v ∷ vs) (inl h) = absurd (let g : suc (length us) ≡ 0 = h in omega arith)
one_ended (u ∷ us) (v ∷ vs) (inr h) = absurd (let g : suc (length vs) ≡ 0 = h in omega arith)

less : (m n k : ℕ) → k ≤ m → k ≤ n → pos (m - k) -ℤ pos (n - k) ≡ pos m -ℤ pos n
less m n k g h = omega (arith, ints)

-- where one of them ends, their lengths decide
pub compared_to_end : (us vs : List ℕ) (k : ℕ) → k ≤ length us → k ≤ length vs
    → (length us ≤ k) ⊎ (length vs ≤ k) → comparison (drop k us) (drop k vs) ≡ pos (length us) -ℤ pos (length vs)
compared_to_end us vs k g h e = one_ended (drop k us) (drop k vs) (ends e)
    ∙ rw (length-drop k us, length-drop k vs) (less (length us) (length vs) k g h)
  where
    ends : (length us ≤ k) ⊎ (length vs ≤ k) → (length (drop k us) ≡ 0) ⊎ (length (drop k vs) ≡ 0)
    ends (inl l) = inl (rw (length-drop k us) (omega arith))
    ends (inr l) = inr (rw (length-drop k vs) (omega arith))
