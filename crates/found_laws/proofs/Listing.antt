-- Numbers that have a property which can be tested are listed.
use Rattle.std.proofs.Common.{◌⊎◌, inl, inr, ⊎_elim, ℕ, zero, suc, ◌<◌, List, [], ◌∷◌, ◌++◌}
use Rattle.std.proofs.Common.{get_or, sym, subst, arith}
use Rattle.std.specs.List.{Contains}
use Rattle.std.proofs.lemmas.Bool.{cases_eq}
use Rattle.std.proofs.lemmas.List.Elements.{Contains-append_left, Contains-get_or, Contains-push}
use Rattle.std.proofs.lemmas.List.Elements.{Contains-push_cases}
use Rattle.std.proofs.lemmas.List.Quantifiers.{all_pairs_push}
use Rattle.code_edit.specs.ConstEdits.{AreSlots}

-- ---- tests

-- it holds, or it doesn't
abbrev pub OrNot : Type 0 → Type 0
OrNot P = P ⊎ (P → ⊥)

pub or_not_as : {P Q : Type 0} → (P → Q) → (Q → P) → OrNot P → OrNot Q
or_not_as to from (inl p) = inl (to p)
or_not_as to from (inr never) = inr (λ q. never (from q))

pub both_or : {P Q : Type 0} → OrNot P → OrNot Q → OrNot (P × Q)
both_or (inl p) (inl q) = inl (p, q)
both_or (inl p) (inr never) = inr (λ h. never h.1)
both_or (inr never) q = inr (λ h. never h.0)

pub either_or : {P Q : Type 0} → OrNot P → OrNot Q → OrNot (P ⊎ Q)
either_or (inl p) q = inl (inl p)
either_or (inr never) (inl q) = inl (inr q)
either_or (inr never) (inr none) = inr (λ h. ⊎_elim never none h)

-- some number below another has the property
abbrev pub SomeBelow : (ℕ → Type 0) → ℕ → Type 0
SomeBelow P n = (k : ℕ) × (k < n) × P k

pub some_or : (P : ℕ → Type 0) → ((k : ℕ) → OrNot (P k)) → (n : ℕ) → OrNot (SomeBelow P n)
some_or P test zero = inr (λ h. let lt : h.0 < 0 = h.1 in omega (arith, lt))
some_or P test (suc n) = by (test n) (some_or P test n)
  where
    by : OrNot (P n) → OrNot (SomeBelow P n) → OrNot (SomeBelow P (suc n))
    by (inl here) rest = inl (n, omega arith, here)
    by (inr never) (inl below) = inl (below.0, (let lt = below.1 in omega (arith, lt)), below.2)
    by (inr never) (inr none) = inr (λ h.
        ⊎_elim (λ same. never (subst P same h.2))
        (λ other. none (h.0, (let lt = h.1 in omega (arith, lt, other)), h.2))
        (cases_eq h.0 n))

-- ---- lists

abbrev Less : ℕ → ℕ → Type 0
Less one other = one < other

module _ (Has : ℕ → Type 0) (test : (s : ℕ) → OrNot (Has s)) where
  abbrev HasBelow : ℕ → ℕ → Type 0
  HasBelow n s = (s < n) × Has s

  more : (n : ℕ) (xs : List ℕ) → AreSlots (HasBelow n) xs → Has n
      → AreSlots (HasBelow (suc n)) (xs ++ n ∷ [])
  more n xs are here = record {
    ascending = all_pairs_push Less xs n are.ascending
        (λ k d lt. ((are.are (get_or xs k d)).0 (Contains-get_or xs k d lt)).0);
    are = λ s. (to s, from s);
  }
    where
      to : (s : ℕ) → Contains (xs ++ n ∷ []) s → HasBelow (suc n) s
      to s has =
          ⊎_elim
          (λ old. let h = (are.are s).0 old in ((let lt = h.0 in omega (arith, lt)), h.1))
          (λ new. (omega (arith, new), subst Has new here))
          (Contains-push_cases xs n s has)

      from : (s : ℕ) → HasBelow (suc n) s → Contains (xs ++ n ∷ []) s
      from s h =
          ⊎_elim
          (λ same. subst (Contains (xs ++ n ∷ [])) (sym same) (Contains-push xs n))
          (λ other. Contains-append_left xs (n ∷ []) s
          ((are.are s).1 ((let lt = h.0 in omega (arith, lt, other)), h.1)))
          (cases_eq s n)

  same : (n : ℕ) (xs : List ℕ) → AreSlots (HasBelow n) xs → (Has n → ⊥)
      → AreSlots (HasBelow (suc n)) xs
  same n xs are never = record { ascending = are.ascending; are = λ s. (to s, from s) }
    where
      to : (s : ℕ) → Contains xs s → HasBelow (suc n) s
      to s has = let h = (are.are s).0 has in ((let lt = h.0 in omega (arith, lt)), h.1)

      from : (s : ℕ) → HasBelow (suc n) s → Contains xs s
      from s h =
          ⊎_elim
          (λ same. absurd (never (subst Has same h.1)))
          (λ other. (are.are s).1 ((let lt = h.0 in omega (arith, lt, other)), h.1))
          (cases_eq s n)

  below : (n : ℕ) → (xs : List ℕ) × AreSlots (HasBelow n) xs
  below zero = (
    [],
    record {
      ascending = λ i j d lt le. absurd (omega (arith, le));
      are = λ s. (
        λ has. absurd (let lt : has.0 < 0 = has.1 in omega (arith, lt)),
        λ h. absurd (let lt : s < 0 = h.0 in omega (arith, lt)),
      );
    },
  )
  below (suc n) =
      let r = below n in
      ⊎_elim (λ here. (r.0 ++ n ∷ [], more n r.0 r.1 here)) (λ never. (r.0, same n r.0 r.1 never)) (test n)

  -- where each that has the property is below a number, they are listed
  pub listed_slots : (bound : ℕ) → ((s : ℕ) → Has s → s < bound)
      → (xs : List ℕ) × AreSlots Has xs
  listed_slots bound low =
      let r = below bound in (
        r.0,
        record {
          ascending = r.1.ascending;
          are = λ s. (λ has. ((r.1.are s).0 has).1, λ h. (r.1.are s).1 (low s h, h));
        },
      )
