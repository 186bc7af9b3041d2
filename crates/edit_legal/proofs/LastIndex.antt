-- The last index that lives, and tests of order.
use Rattle.std.proofs.Common.{ℕ, zero, suc, ◌+◌, ◌<◌, ◌≤◌, List, [], ◌∷◌, Bool, true, false, ◌≡◌}
use Rattle.std.proofs.Common.{◌⊎◌, inl, inr, refl, sym, ◌∙◌, arith}
use Rattle.std.specs.Prelude.{length, nat_le, if◌then◌else◌}
use Rattle.std.proofs.lemmas.Bool.Decides.{leb_tells}
use Rattle.edit_legal.specs.Movable.{end_from}
use Rattle.edit_tables.specs.Places.{lives_in}

pub last_of : (e k : ℕ) (bs : List Bool) → (end_from e k bs ≡ e)
    ⊎ ((j : ℕ) × (j < length bs) × (lives_in bs j ≡ true) × (end_from e k bs ≡ k + j + 1))
last_of e k [] = inl refl
last_of e k (b ∷ bs) = by b (last_of (if b then k + 1 else e) (k + 1) bs)
  where
    by : (c : Bool) → (end_from (if c then k + 1 else e) (k + 1) bs ≡ (if c then k + 1 else e))
        ⊎ ((j : ℕ) × (j < length bs) × (lives_in bs j ≡ true)
        × (end_from (if c then k + 1 else e) (k + 1) bs ≡ k + 1 + j + 1))
        → (end_from (if c then k + 1 else e) (k + 1) bs ≡ e)
        ⊎ ((j : ℕ) × (j < length (c ∷ bs)) × (lives_in (c ∷ bs) j ≡ true)
        × (end_from (if c then k + 1 else e) (k + 1) bs ≡ k + j + 1))
    by true (inl q) = inr (0, omega arith, refl, q ∙ omega arith)
    by false (inl q) = inl q
    by c (inr q) = inr (suc q.0, omega (arith, q.1), q.2, q.3 ∙ omega arith)

end_up : (e k : ℕ) (bs : List Bool) → e ≤ k → e ≤ end_from e k bs
end_up e k [] le = omega arith
end_up e k (b ∷ bs) le = by b
    (λ e' le'. end_up e' (k + 1) bs le')
  where
    by : (c : Bool) → ((e' : ℕ) → e' ≤ k + 1 → e' ≤ end_from e' (k + 1) bs)
        → e ≤ end_from (if c then k + 1 else e) (k + 1) bs
    by true up = let u = up (k + 1) (omega arith) in omega (arith, u, le)
    by false up = up e (omega (arith, le))

pub end_above : (e k : ℕ) (bs : List Bool) → e ≤ k → (j : ℕ) → j < length bs
    → lives_in bs j ≡ true → k + j < end_from e k bs
end_above e k [] le j lt l = absurd (omega (arith, lt))
end_above e k (true ∷ bs) le zero lt l =
    let u = end_up (k + 1) (k + 1) bs (omega arith) in omega (arith, u)
end_above e k (false ∷ bs) le zero lt l = absurd cc
end_above e k (b ∷ bs) le (suc j) lt l =
    let h = end_above (if b then k + 1 else e) (k + 1) bs (small b) j (omega (arith, lt)) l in
    omega (arith, h)
  where
    small : (c : Bool) → (if c then k + 1 else e) ≤ k + 1
    small true = omega arith
    small false = omega (arith, le)

pub le_is : (a b : ℕ) → a ≤ b → nat_le a b ≡ true
le_is a b le = by (leb_tells a b)
  where
    by : ((nat_le a b ≡ true) × (a ≤ b)) ⊎ ((nat_le a b ≡ false) × (b < a))
        → nat_le a b ≡ true
    by (inl q) = q.0
    by (inr q) = absurd (omega (arith, le, q.1))

pub is_le : (a b : ℕ) → nat_le a b ≡ true → a ≤ b
is_le a b e = by (leb_tells a b)
  where
    by : ((nat_le a b ≡ true) × (a ≤ b)) ⊎ ((nat_le a b ≡ false) × (b < a)) → a ≤ b
    by (inl q) = q.1
    by (inr q) = absurd (let no : true ≡ false = sym e ∙ q.0 in cc)
