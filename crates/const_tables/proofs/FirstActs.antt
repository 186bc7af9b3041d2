-- The first act that names a place, and the int that it tells.
use Rattle.std.proofs.Common.{ℕ, zero, suc, ◌+◌, ◌<◌, List, [], ◌∷◌, Option, Some, None, Bool, true}
use Rattle.std.proofs.Common.{false, ◌≡◌, refl, sym, ap, ◌∙◌, arith}
use Rattle.std.specs.Prelude.{slice_get, if◌then◌else◌}
use Rattle.code_edit.specs.declared.act.Act.{Act}
use Rattle.code_edit.specs.declared.act.Act.TheVariants as act
use Rattle.code_edit.specs.Constants.{fact_at}
use Rattle.const_tables.specs.declared.facts.Stretch.{Stretch}
use Rattle.const_tables.specs.FirstFacts.{AreFirst, first_from, int_at, names, value_in, value_of}

module _ (slot at : ℕ) where
  -- this act is the first
  abbrev pub IsFirst : List Act → ℕ → Act → Type 0
  IsFirst acts k a = (slice_get acts k ≡ Some a) × (names slot at a ≡ true)
      × ((j : ℕ) (b : Act) → j < k → slice_get acts j ≡ Some b → names slot at b ≡ false)

  behind : (x : Act) (acts : List Act) (k : ℕ) (a : Act) → names slot at x ≡ false
      → IsFirst acts k a → IsFirst (x ∷ acts) (suc k) a
  behind x acts k a e h = (h.0, h.1, earlier)
    where
      earlier : (j : ℕ) (b : Act) → j < suc k → slice_get (x ∷ acts) j ≡ Some b
          → names slot at b ≡ false
      earlier zero b lt q = let same : x ≡ b = cc in ap (names slot at) (sym same) ∙ e
      earlier (suc j) b lt q = h.2 j b (omega (arith, lt)) q

  pub first_there : (n m : ℕ) (acts : List Act) → first_from n acts slot at ≡ Some m
      → (k : ℕ) × (a : Act) × (m ≡ n + k) × IsFirst acts k a
  first_there n m [] e = absurd cc
  first_there n m (x ∷ acts) e =
      by (names slot at x) refl e (λ q. first_there (suc n) m acts q)
    where
      by : (b : Bool) → names slot at x ≡ b
          → (if b then Some n else first_from (suc n) acts slot at) ≡ Some m
          → (first_from (suc n) acts slot at ≡ Some m
          → (k : ℕ) × (a : Act) × (m ≡ suc n + k) × IsFirst acts k a)
          → (k : ℕ) × (a : Act) × (m ≡ n + k) × IsFirst (x ∷ acts) k a
      by true q e rest =
          let same : n ≡ m = cc in
          (0, x, omega (arith, same), (refl, q, λ j b lt f. absurd (omega (arith, lt))))
      by false q e rest =
          let r = rest e in
          let z : m ≡ n + suc r.0 = omega (arith, r.2) in
          (suc r.0, r.1, z, behind x acts r.0 r.1 q r.3)

  pub there_first : (n : ℕ) (acts : List Act) (k : ℕ) (a : Act) → IsFirst acts k a
      → first_from n acts slot at ≡ Some (n + k)
  there_first n [] k a h = absurd (let e = h.0 in cc)
  there_first n (x ∷ acts) zero a h =
      let same : x ≡ a = (let e = h.0 in cc) in
      let z : n ≡ n + 0 = omega arith in
      ap (λ b. if b then Some n else first_from (suc n) acts slot at)
      (ap (names slot at) same ∙ h.1) ∙ ap Some z
  there_first n (x ∷ acts) (suc k) a h =
      let z : suc n + k ≡ n + suc k = omega arith in
      ap (λ b. if b then Some n else first_from (suc n) acts slot at)
      (h.2 0 x (omega arith) refl)
      ∙ there_first (suc n) acts k a
      (h.0, h.1, λ j b lt e. h.2 (suc j) b (omega (arith, lt)) e) ∙ ap Some z

  -- ---- its int

  fact_behind : (x : Act) (acts : List Act) → names slot at x ≡ false
      → fact_at (x ∷ acts) slot at ≡ fact_at acts slot at
  fact_behind (act.Fact from to named value) acts e =
      ap (λ b. if b then Some value else fact_at acts slot at) e
  fact_behind (act.Drop from to) acts e = refl
  fact_behind (act.Fold place to) acts e = refl
  fact_behind (act.Cut place) acts e = refl
  fact_behind (act.Aim place which to) acts e = refl
  fact_behind (act.Skip place) acts e = refl

  fact_here : (x : Act) (acts : List Act) → names slot at x ≡ true
      → fact_at (x ∷ acts) slot at ≡ value_in (Some x)
  fact_here (act.Fact from to named value) acts e =
      ap (λ b. if b then Some value else fact_at acts slot at) e
  fact_here (act.Drop from to) acts e = absurd cc
  fact_here (act.Fold place to) acts e = absurd cc
  fact_here (act.Cut place) acts e = absurd cc
  fact_here (act.Aim place which to) acts e = absurd cc
  fact_here (act.Skip place) acts e = absurd cc

  fact_first : (acts : List Act) (k : ℕ) (a : Act) → IsFirst acts k a
      → fact_at acts slot at ≡ value_in (Some a)
  fact_first [] k a h = absurd (let e = h.0 in cc)
  fact_first (x ∷ acts) zero a h =
      let same : x ≡ a = (let e = h.0 in cc) in
      fact_here x acts (ap (names slot at) same ∙ h.1) ∙ ap (λ (y : Act). value_in (Some y)) same
  fact_first (x ∷ acts) (suc k) a h =
      fact_behind x acts (h.2 0 x (omega arith) refl)
      ∙ fact_first acts k a (h.0, h.1, λ j b lt e. h.2 (suc j) b (omega (arith, lt)) e)

  fact_none : (n : ℕ) (acts : List Act) → first_from n acts slot at ≡ None
      → fact_at acts slot at ≡ None
  fact_none n [] e = refl
  fact_none n (x ∷ acts) e = by (names slot at x) refl e (λ q. fact_none (suc n) acts q)
    where
      by : (b : Bool) → names slot at x ≡ b
          → (if b then Some n else first_from (suc n) acts slot at) ≡ None
          → (first_from (suc n) acts slot at ≡ None → fact_at acts slot at ≡ None)
          → fact_at (x ∷ acts) slot at ≡ None
      by true q e rest = absurd cc
      by false q e rest = fact_behind x acts q ∙ rest e

  pub ints_tell : (acts : List Act) (facts : List Stretch) → AreFirst 0 acts facts
      → int_at facts acts slot at ≡ fact_at acts slot at
  ints_tell acts facts h =
      ap (value_of acts) (h.told slot at) ∙ by (first_from 0 acts slot at) refl
    where
      by : (o : Option ℕ) → first_from 0 acts slot at ≡ o → value_of acts o ≡ fact_at acts slot at
      by None e = sym (fact_none 0 acts e)
      by (Some m) e =
          let r = first_there 0 m acts e in
          let z : m ≡ r.0 = omega (arith, r.2) in
          ap (λ k. value_in (slice_get acts k)) z ∙ ap value_in r.3.0
          ∙ sym (fact_first acts r.0 r.1 r.3)
