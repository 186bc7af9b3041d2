-- Lists whose elements are lowered one after another until nothing is lacking.
use Rattle.std.proofs.Common.{◌≡◌, ◌⊎◌, inl, inr, ⊎_elim, ℕ, zero, suc, ◌≤◌, ◌<◌, List, [], ◌∷◌, length}
use Rattle.std.proofs.Common.{get_or, set, sym, subst, ◌∙◌, ap, arith}
use Rattle.std.specs.Prelude.{Some, slice_get}
use Rattle.std.specs.List.{All, Contains, sum_by}
use Rattle.std.proofs.lemmas.Bool.{cases_eq}
use Rattle.std.proofs.lemmas.List.{get_or-set_other, get_or-set_same}
use Rattle.std.proofs.lemmas.List.Elements.{All-cons, All-nil, Contains-append_left}
use Rattle.std.proofs.lemmas.List.Elements.{Contains-append_right, Contains-push}
use Rattle.std.proofs.lemmas.List.Sums.{sum_by-set}
use Rattle.std.proofs.lemmas.Option.{get_or_from_slice_get, slice_get-get_or, slice_get_within}

-- ---- a test of each gives that it holds of all, or what the test gives where it doesn't

pub each_or : {X Q : Type 0} (P : X → Type 0) (xs : List X)
    → ((x : X) → Contains xs x → P x ⊎ Q) → All P xs ⊎ Q
each_or P [] test = inl (All-nil P)
each_or P (x ∷ xs) test =
    ⊎_elim
    (λ first. ⊎_elim (λ rest. inl (All-cons P x xs first rest)) inr
    (each_or P xs (λ y has. test y (Contains-append_right (x ∷ []) xs y has))))
    inr
    (test x (Contains-append_left (x ∷ []) xs x (Contains-push [] x)))

below_by : (P : ℕ → Type 0) (n : ℕ) → ((x : ℕ) → x < n → P x) → P n → (x : ℕ) → x < suc n → P x
below_by P n rest last x lt =
    ⊎_elim (λ same. subst P (sym same) last) (λ other. rest x (omega (arith, other, lt)))
    (cases_eq x n)

pub below_or : {Q : Type 0} (P : ℕ → Type 0) (n : ℕ) → ((x : ℕ) → x < n → P x ⊎ Q)
    → ((x : ℕ) → x < n → P x) ⊎ Q
below_or P zero test = inl (λ x lt. absurd (omega (arith, lt)))
below_or P (suc n) test =
    ⊎_elim
    (λ rest. ⊎_elim (λ last. inl (λ x lt. below_by P n rest last x lt)) inr (test n (omega arith)))
    inr
    (below_or P n (λ x lt. test x (omega (arith, lt))))

-- ---- elements

-- where an element of a list stands
pub stands : {X : Type 0} (xs : List X) (x : X) → Contains xs x → (k : ℕ) × (slice_get xs k ≡ Some x)
stands xs x has = (has.0, slice_get-get_or xs has.0 x has.1 ∙ ap Some has.2)

pub it_has : {X : Type 0} (xs : List X) (k : ℕ) (x : X) → slice_get xs k ≡ Some x → Contains xs x
it_has xs k x e = (k, slice_get_within xs k x e, get_or_from_slice_get xs k x x e)

-- what stands in a list after one element was set
pub after_set : {X : Type 0} (xs : List X) (k j : ℕ) (y d : X) → k < length xs
    → (get_or (set xs k y) j d ≡ get_or xs j d) ⊎ ((j ≡ k) × (get_or (set xs k y) j d ≡ y))
after_set xs k j y d lt =
    ⊎_elim
    (λ same. inr (same, ap (λ i. get_or (set xs k y) i d) same ∙ get_or-set_same xs k y d lt))
    (λ other. inl (get_or-set_other xs k j y d other))
    (cases_eq j k)

-- ---- lists

module _ (X : Type 0) (rank : X → ℕ) (d : X) (IsGood IsDone : List X → Type 0) where
  -- an element may be lowered
  abbrev pub Lacks : List X → Type 0
  Lacks xs = (k : ℕ) × (y : X) × (k < length xs) × (rank y < rank (get_or xs k d))
      × IsGood (set xs k y)

  settled : ((xs : List X) → IsGood xs → IsDone xs ⊎ Lacks xs) → (fuel : ℕ) (xs : List X)
      → IsGood xs → sum_by rank xs ≤ fuel → (ys : List X) × IsGood ys × IsDone ys
  settled test zero xs good le =
      ⊎_elim (λ done. (xs, good, done))
      (λ lacks. let one = sum_by-set rank xs lacks.0 lacks.1 d lacks.2 in
      absurd (omega (arith, one, le, lacks.3)))
      (test xs good)
  settled test (suc fuel) xs good le =
      ⊎_elim (λ done. (xs, good, done))
      (λ lacks. let one = sum_by-set rank xs lacks.0 lacks.1 d lacks.2 in
      settled test fuel (set xs lacks.0 lacks.1) lacks.4 (omega (arith, one, le, lacks.3)))
      (test xs good)

  -- where in each good list that isn't done an element may be lowered, and it is good then, there
  -- is a good one that is done
  pub settle : ((xs : List X) → IsGood xs → IsDone xs ⊎ Lacks xs) → (xs : List X) → IsGood xs
      → (ys : List X) × IsGood ys × IsDone ys
  settle test xs good = settled test (sum_by rank xs) xs good (omega arith)
