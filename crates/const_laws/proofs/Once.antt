-- The acts of the pass on constants name no place twice.
use Rattle.std.proofs.Common.{ℕ, zero, suc, ◌+◌, ◌-◌, ◌<◌, ◌≤◌, get_or, List, [], ◌∷◌, ◌++◌, Option}
use Rattle.std.proofs.Common.{Some, None, Bool, true, false, ◌≡◌, ◌≢◌, ◌⊎◌, inl, inr}
use Rattle.std.proofs.Common.{refl, sym, ◌∙◌, subst, arith, length}
use Rattle.std.specs.Prelude.{ℤ, AllPairs, nat_le, slice_get, ◌==◌, ◌&&◌, if◌then◌else◌}
use Rattle.std.specs.List.{AllByRecursion, flat_map}
use Rattle.std.specs.Ordering.{int_eq}
use Rattle.std.proofs.lemmas.Bool.Decides.{eqb_tells, leb_tells}
use Rattle.jv_base.proofs.Lists.{all_at}
use Rattle.class_model.specs.declared.code.Code.{Code}
use Rattle.code_edit.specs.declared.act.Act.{Act}
use Rattle.code_edit.specs.declared.act.Act.TheVariants as act
use Rattle.code_edit.specs.ConstEdits.{ByBound, IsConstEdits, Run, Shut, Open, fold_act}
use Rattle.code_edit.specs.ConstEdits.{fold_target}
use Rattle.code_edit.specs.ConstEdits.{folds_below, is_beyond, runs}
use Rattle.code_edit.specs.Legal.{share_place}

-- two acts of one kind name no place both
abbrev AreApart : Act → Act → Type 0
AreApart (act.Fact from to slot value) (act.Fact from' to' slot' value') =
    (slot ≢ slot') ⊎ (to < from') ⊎ (to' < from)
AreApart (act.Fold at to) (act.Fold at' to') = at ≢ at'
AreApart (act.Fact from to slot value) (act.Fold at to') = Unit {0}
AreApart (act.Fold at to) (act.Fact from to' slot value) = Unit {0}
AreApart a b = ⊥

-- no place is named twice
abbrev NamesOnce : List Act → Type 0
NamesOnce [] = Unit {0}
NamesOnce (a ∷ acts) = AllByRecursion (AreApart a) acts × NamesOnce acts

-- a fact of the slot, at no index below n
abbrev Above : ℕ → ℕ → Act → Type 0
Above slot n (act.Fact from to s v) = (s ≡ slot) × (n ≤ from)
Above slot n a = ⊥

lower : (slot m n : ℕ) → m ≤ n → (xs : List Act) → AllByRecursion (Above slot n) xs
    → AllByRecursion (Above slot m) xs
lower slot m n le [] h = tt
lower slot m n le (act.Fact from to s v ∷ xs) h =
    ((h.0.0, (let q : n ≤ from = h.0.1 in omega (arith, le, q))), lower slot m n le xs h.1)
lower slot m n le (act.Fold a b ∷ xs) h = absurd h.0
lower slot m n le (act.Drop a b ∷ xs) h = absurd h.0
lower slot m n le (act.Cut a ∷ xs) h = absurd h.0
lower slot m n le (act.Aim a w b ∷ xs) h = absurd h.0
lower slot m n le (act.Skip a ∷ xs) h = absurd h.0

-- where the next act begins at the earliest
abbrev start : ℕ → Run → ℕ
start i Shut = i
start i (Open from v) = from

abbrev IsBegun : ℕ → Run → Type 0
IsBegun i Shut = Unit {0}
IsBegun i (Open from v) = from < i

-- a fact that ends before n is apart from all that begin there
before : (slot n from to : ℕ) (v : ℤ) → to < n → (xs : List Act) → AllByRecursion (Above slot n) xs
    → AllByRecursion (AreApart (act.Fact from to slot v)) xs
before slot n from to v lt [] h = tt
before slot n from to v lt (act.Fact f t s w ∷ xs) h =
    (inr (inl (let q : n ≤ f = h.0.1 in omega (arith, lt, q))), before slot n from to v lt xs h.1)
before slot n from to v lt (act.Fold a b ∷ xs) h = absurd h.0
before slot n from to v lt (act.Drop a b ∷ xs) h = absurd h.0
before slot n from to v lt (act.Cut a ∷ xs) h = absurd h.0
before slot n from to v lt (act.Aim a w b ∷ xs) h = absurd h.0
before slot n from to v lt (act.Skip a ∷ xs) h = absurd h.0

module _ (slot : ℕ) where
  abbrev Good : ℕ → List Act → Type 0
  Good n xs = AllByRecursion (Above slot n) xs × NamesOnce xs

  closes : (i from : ℕ) (v : ℤ) → from < i → (xs : List Act) → Good i xs
      → Good from (act.Fact from (i - 1) slot v ∷ xs)
  closes i from v lt xs h = (
    ((refl, omega arith), lower slot from i (omega arith) xs h.0),
    (before slot i from (i - 1) v (omega arith) xs h.0, h.1),
  )

  weaker : (m n : ℕ) → m ≤ n → (xs : List Act) → Good n xs → Good m xs
  weaker m n le xs h = (lower slot m n le xs h.0, h.1)

  runs_good : (i : ℕ) (o : Run) (hs : List (Option ℤ)) → IsBegun i o
      → Good (start i o) (runs slot i o hs)
  runs_good i Shut [] b = (tt, tt)
  runs_good i (Open from v) [] b = closes i from v b [] (tt, tt)
  runs_good i Shut (None ∷ hs) b = weaker i (i + 1) (omega arith) _ (runs_good (i + 1) Shut hs tt)
  runs_good i Shut (Some w ∷ hs) b = runs_good (i + 1) (Open i w) hs (omega arith)
  runs_good i (Open from v) (None ∷ hs) b =
      closes i from v b _ (weaker i (i + 1) (omega arith) _ (runs_good (i + 1) Shut hs tt))
  runs_good i (Open from v) (Some w ∷ hs) b =
      by (int_eq v w) (runs_good (i + 1) (Open from v) hs
      (let q : from < i = b in omega (arith, q)))
      (closes i from v b _ (runs_good (i + 1) (Open i w) hs (omega arith)))
    where
      by : (t : Bool) → Good from (runs slot (i + 1) (Open from v) hs)
          → Good from (act.Fact from (i - 1) slot v ∷ runs slot (i + 1) (Open i w) hs)
          → Good from (if t then runs slot (i + 1) (Open from v) hs
          else act.Fact from (i - 1) slot v ∷ runs slot (i + 1) (Open i w) hs)
      by true x y = x
      by false x y = y

-- ---- lists one after another

apart_both : (a : Act) (xs ys : List Act) → AllByRecursion (AreApart a) xs
    → AllByRecursion (AreApart a) ys
    → AllByRecursion (AreApart a) (xs ++ ys)
apart_both a [] ys h k = k
apart_both a (x ∷ xs) ys h k = (h.0, apart_both a xs ys h.1 k)

once_both : (xs ys : List Act) → NamesOnce xs → NamesOnce ys
    → AllByRecursion (λ a. AllByRecursion (AreApart a) ys) xs
    → NamesOnce (xs ++ ys)
once_both [] ys h k m = k
once_both (x ∷ xs) ys h k m = (apart_both x xs ys h.0 m.0, once_both xs ys h.1 k m.1)

module _ (known : ℕ → List (Option ℤ)) where
  abbrev acts_of : List ℕ → List Act
  acts_of slots = flat_map (λ slot. runs slot 0 Shut (known slot)) slots

  -- facts of other slots
  abbrev Other : ℕ → Act → Type 0
  Other slot (act.Fact from to s v) = slot ≢ s
  Other slot a = ⊥

  others_both : (slot : ℕ) (xs ys : List Act) → AllByRecursion (Other slot) xs
      → AllByRecursion (Other slot) ys
      → AllByRecursion (Other slot) (xs ++ ys)
  others_both slot [] ys h k = k
  others_both slot (x ∷ xs) ys h k = (h.0, others_both slot xs ys h.1 k)

  others_of : (slot s n : ℕ) → slot ≢ s → (xs : List Act) → AllByRecursion (Above s n) xs
      → AllByRecursion (Other slot) xs
  others_of slot s n ne [] h = tt
  others_of slot s n ne (act.Fact from to t v ∷ xs) h =
      ((λ e. ne (e ∙ h.0.0)), others_of slot s n ne xs h.1)
  others_of slot s n ne (act.Fold a b ∷ xs) h = absurd h.0
  others_of slot s n ne (act.Drop a b ∷ xs) h = absurd h.0
  others_of slot s n ne (act.Cut a ∷ xs) h = absurd h.0
  others_of slot s n ne (act.Aim a w b ∷ xs) h = absurd h.0
  others_of slot s n ne (act.Skip a ∷ xs) h = absurd h.0

  all_others : (slot : ℕ) (slots : List ℕ) → AllByRecursion (λ s. slot < s) slots
      → AllByRecursion (Other slot) (acts_of slots)
  all_others slot [] h = tt
  all_others slot (s ∷ slots) h =
      others_both slot (runs s 0 Shut (known s)) (acts_of slots)
      (others_of slot s 0 (λ e. let q : slot < s = h.0 in omega (arith, q, e))
      (runs s 0 Shut (known s)) (runs_good s 0 Shut (known s) tt).0)
      (all_others slot slots h.1)

  apart_others : (from to slot : ℕ) (v : ℤ) (ys : List Act) → AllByRecursion (Other slot) ys
      → AllByRecursion (AreApart (act.Fact from to slot v)) ys
  apart_others from to slot v [] h = tt
  apart_others from to slot v (act.Fact f t s w ∷ ys) h =
      (inl h.0, apart_others from to slot v ys h.1)
  apart_others from to slot v (act.Fold a b ∷ ys) h = absurd h.0
  apart_others from to slot v (act.Drop a b ∷ ys) h = absurd h.0
  apart_others from to slot v (act.Cut a ∷ ys) h = absurd h.0
  apart_others from to slot v (act.Aim a w b ∷ ys) h = absurd h.0
  apart_others from to slot v (act.Skip a ∷ ys) h = absurd h.0

  all_apart : (slot : ℕ) (ys : List Act) → AllByRecursion (Other slot) ys → (xs : List Act)
      → AllByRecursion (Above slot 0) xs
      → AllByRecursion (λ a. AllByRecursion (AreApart a) ys) xs
  all_apart slot ys o [] h = tt
  all_apart slot ys o (act.Fact from to s v ∷ xs) h = (
    subst (λ x. AllByRecursion (AreApart (act.Fact from to x v)) ys) (sym h.0.0)
        (apart_others from to slot v ys o),
    all_apart slot ys o xs h.1,
  )
  all_apart slot ys o (act.Fold a b ∷ xs) h = absurd h.0
  all_apart slot ys o (act.Drop a b ∷ xs) h = absurd h.0
  all_apart slot ys o (act.Cut a ∷ xs) h = absurd h.0
  all_apart slot ys o (act.Aim a w b ∷ xs) h = absurd h.0
  all_apart slot ys o (act.Skip a ∷ xs) h = absurd h.0

  abbrev Ascends : List ℕ → Type 0
  Ascends [] = Unit {0}
  Ascends (s ∷ slots) = AllByRecursion (λ t. s < t) slots × Ascends slots

  facts_once : (slots : List ℕ) → Ascends slots → NamesOnce (acts_of slots)
  facts_once [] h = tt
  facts_once (s ∷ slots) h =
      let good = runs_good s 0 Shut (known s) tt in
      once_both (runs s 0 Shut (known s)) (acts_of slots) good.1 (facts_once slots h.1)
      (all_apart s (acts_of slots) (all_others s slots h.0) (runs s 0 Shut (known s)) good.0)

  -- facts are apart from folds
  abbrev IsFact : Act → Type 0
  IsFact (act.Fact from to s v) = Unit {0}
  IsFact a = ⊥

  abbrev IsFoldBelow : ℕ → Act → Type 0
  IsFoldBelow n (act.Fold at to) = at < n
  IsFoldBelow n a = ⊥

  fact_folds : (from to s : ℕ) (v : ℤ) (n : ℕ) (ys : List Act) → AllByRecursion (IsFoldBelow n) ys
      → AllByRecursion (AreApart (act.Fact from to s v)) ys
  fact_folds from to s v n [] h = tt
  fact_folds from to s v n (act.Fold a b ∷ ys) h = (tt, fact_folds from to s v n ys h.1)
  fact_folds from to s v n (act.Fact f t w x ∷ ys) h = absurd h.0
  fact_folds from to s v n (act.Drop a b ∷ ys) h = absurd h.0
  fact_folds from to s v n (act.Cut a ∷ ys) h = absurd h.0
  fact_folds from to s v n (act.Aim a w b ∷ ys) h = absurd h.0
  fact_folds from to s v n (act.Skip a ∷ ys) h = absurd h.0

  facts_folds : (n : ℕ) (ys : List Act) → AllByRecursion (IsFoldBelow n) ys → (xs : List Act)
      → AllByRecursion IsFact xs
      → AllByRecursion (λ a. AllByRecursion (AreApart a) ys) xs
  facts_folds n ys h [] k = tt
  facts_folds n ys h (act.Fact from to s v ∷ xs) k =
      (fact_folds from to s v n ys h, facts_folds n ys h xs k.1)
  facts_folds n ys h (act.Fold a b ∷ xs) k = absurd k.0
  facts_folds n ys h (act.Drop a b ∷ xs) k = absurd k.0
  facts_folds n ys h (act.Cut a ∷ xs) k = absurd k.0
  facts_folds n ys h (act.Aim a w b ∷ xs) k = absurd k.0
  facts_folds n ys h (act.Skip a ∷ xs) k = absurd k.0

  are_facts : (slot n : ℕ) (xs : List Act) → AllByRecursion (Above slot n) xs
      → AllByRecursion IsFact xs
  are_facts slot n [] h = tt
  are_facts slot n (act.Fact from to s v ∷ xs) h = (tt, are_facts slot n xs h.1)
  are_facts slot n (act.Fold a b ∷ xs) h = absurd h.0
  are_facts slot n (act.Drop a b ∷ xs) h = absurd h.0
  are_facts slot n (act.Cut a ∷ xs) h = absurd h.0
  are_facts slot n (act.Aim a w b ∷ xs) h = absurd h.0
  are_facts slot n (act.Skip a ∷ xs) h = absurd h.0

  facts_both : (xs ys : List Act) → AllByRecursion IsFact xs → AllByRecursion IsFact ys
      → AllByRecursion IsFact (xs ++ ys)
  facts_both [] ys h k = k
  facts_both (x ∷ xs) ys h k = (h.0, facts_both xs ys h.1 k)

  all_facts : (slots : List ℕ) → AllByRecursion IsFact (acts_of slots)
  all_facts [] = tt
  all_facts (s ∷ slots) =
      facts_both (runs s 0 Shut (known s)) (acts_of slots)
      (are_facts s 0 (runs s 0 Shut (known s)) (runs_good s 0 Shut (known s) tt).0)
      (all_facts slots)

  -- ---- folds

  module _ (code : Code) where
    more_folds : (n : ℕ) (xs : List Act) → AllByRecursion (IsFoldBelow n) xs
        → AllByRecursion (IsFoldBelow (suc n)) xs
    more_folds n [] h = tt
    more_folds n (act.Fold a b ∷ xs) h =
        ((let q : a < n = h.0 in omega (arith, q)), more_folds n xs h.1)
    more_folds n (act.Fact f t w x ∷ ys) h = absurd h.0
    more_folds n (act.Drop a b ∷ ys) h = absurd h.0
    more_folds n (act.Cut a ∷ ys) h = absurd h.0
    more_folds n (act.Aim a w b ∷ ys) h = absurd h.0
    more_folds n (act.Skip a ∷ ys) h = absurd h.0

    folds_both : (n : ℕ) (xs ys : List Act) → AllByRecursion (IsFoldBelow n) xs
        → AllByRecursion (IsFoldBelow n) ys
        → AllByRecursion (IsFoldBelow n) (xs ++ ys)
    folds_both n [] ys h k = k
    folds_both n (x ∷ xs) ys h k = (h.0, folds_both n xs ys h.1 k)

    one_fold : (n : ℕ) (o : Option ℕ)
        → AllByRecursion (IsFoldBelow (suc n)) (fold_act known code n o)
    one_fold n None = tt
    one_fold n (Some to) = (omega arith, tt)

    folds_in : (n : ℕ) → AllByRecursion (IsFoldBelow n) (folds_below known code n)
    folds_in zero = tt
    folds_in (suc n) =
        folds_both (suc n) (folds_below known code n)
        (fold_act known code n (fold_target known code n))
        (more_folds n (folds_below known code n) (folds_in n))
        (one_fold n (fold_target known code n))

    apart_fold : (n : ℕ) (o : Option ℕ) (xs : List Act) → AllByRecursion (IsFoldBelow n) xs
        → AllByRecursion (λ a. AllByRecursion (AreApart a) (fold_act known code n o)) xs
    apart_fold n None [] h = tt
    apart_fold n (Some to) [] h = tt
    apart_fold n None (act.Fold a b ∷ xs) h = (tt, apart_fold n None xs h.1)
    apart_fold n (Some to) (act.Fold a b ∷ xs) h =
        (((λ e. let q : a < n = h.0 in omega (arith, q, e)), tt), apart_fold n (Some to) xs h.1)
    apart_fold n o (act.Fact f t w x ∷ ys) h = absurd h.0
    apart_fold n o (act.Drop a b ∷ ys) h = absurd h.0
    apart_fold n o (act.Cut a ∷ ys) h = absurd h.0
    apart_fold n o (act.Aim a w b ∷ ys) h = absurd h.0
    apart_fold n o (act.Skip a ∷ ys) h = absurd h.0

    single_once : (n : ℕ) (o : Option ℕ) → NamesOnce (fold_act known code n o)
    single_once n None = tt
    single_once n (Some to) = (tt, tt)

    folds_once : (n : ℕ) → NamesOnce (folds_below known code n)
    folds_once zero = tt
    folds_once (suc n) =
        once_both (folds_below known code n) (fold_act known code n (fold_target known code n))
        (folds_once n) (single_once n (fold_target known code n))
        (apart_fold n (fold_target known code n) (folds_below known code n) (folds_in n))

    pub acts_once : (slots : List ℕ) (n : ℕ) → Ascends slots
        → NamesOnce (acts_of slots ++ folds_below known code n)
    acts_once slots n h =
        once_both (acts_of slots) (folds_below known code n) (facts_once slots h) (folds_once n)
        (facts_folds n (folds_below known code n) (folds_in n) (acts_of slots) (all_facts slots))

-- the pairs of an ascending list
rest_pairs : (s : ℕ) (slots : List ℕ) → AllPairs (λ one other. one < other) (s ∷ slots)
    → AllPairs (λ one other. one < other) slots
rest_pairs s slots h i j d lt le = h (suc i) (suc j) d (omega (arith, lt)) (omega (arith, le))

all_less : (s : ℕ) (ts : List ℕ) → ((j : ℕ) → j < length ts → s < get_or ts j 0)
    → AllByRecursion (λ t. s < t) ts
all_less s [] h = tt
all_less s (t ∷ ts) h = (h 0 (omega arith), all_less s ts (λ j lt. h (suc j) (omega (arith, lt))))

ascends : (known : ℕ → List (Option ℤ)) (slots : List ℕ) → AllPairs (λ one other. one < other) slots
    → Ascends known slots
ascends known [] h = tt
ascends known (s ∷ slots) h = (
  all_less s slots (λ j lt. h 0 (suc j) 0 (omega arith) (omega (arith, lt))),
  ascends known slots
      (rest_pairs s slots h),
)

-- ---- told by indices

first_unlike : (a b : Bool) → a ≡ false → (a && b) ≡ false
first_unlike true b e = absurd cc
first_unlike false b e = refl

second_unlike : (a b c : Bool) → b ≡ false → (a && (b && c)) ≡ false
second_unlike true true c e = absurd cc
second_unlike true false c e = refl
second_unlike false b c e = refl

third_unlike : (a b c : Bool) → c ≡ false → (a && (b && c)) ≡ false
third_unlike true true true e = absurd cc
third_unlike true true false e = refl
third_unlike true false c e = refl
third_unlike false b c e = refl

unequal_is : (a b : ℕ) → a ≢ b → (a == b) ≡ false
unequal_is a b n = by (eqb_tells a b)
  where
    by : (((a == b) ≡ true) × (a ≡ b)) ⊎ (((a == b) ≡ false) × (a ≢ b)) → (a == b) ≡ false
    by (inl q) = absurd (n q.1)
    by (inr q) = q.0

above_is : (a b : ℕ) → b < a → nat_le a b ≡ false
above_is a b lt = by (leb_tells a b)
  where
    by : ((nat_le a b ≡ true) × (a ≤ b)) ⊎ ((nat_le a b ≡ false) × (b < a)) → nat_le a b ≡ false
    by (inl q) = absurd (omega (arith, lt, q.1))
    by (inr q) = q.0

apart_share : (a b : Act) → AreApart a b → share_place a b ≡ false
apart_share (act.Fact from to slot v) (act.Fact start end named w) (inl n) =
    first_unlike (slot == named) (nat_le from end && nat_le start to) (unequal_is slot named n)
apart_share (act.Fact from to slot v) (act.Fact start end named w) (inr (inl lt)) =
    third_unlike (slot == named) (nat_le from end) (nat_le start to) (above_is start to lt)
apart_share (act.Fact from to slot v) (act.Fact start end named w) (inr (inr lt)) =
    second_unlike (slot == named) (nat_le from end) (nat_le start to) (above_is from end lt)
apart_share (act.Fact f t s v) (act.Fold a b) h = refl
apart_share (act.Fact f t s v) (act.Drop a b) h = absurd h
apart_share (act.Fact f t s v) (act.Cut a) h = absurd h
apart_share (act.Fact f t s v) (act.Aim a w b) h = absurd h
apart_share (act.Fact f t s v) (act.Skip a) h = absurd h
apart_share (act.Fold at to) (act.Fold place other) n = unequal_is at place n
apart_share (act.Fold at to) (act.Fact f t s v) h = refl
apart_share (act.Fold at to) (act.Drop a b) h = absurd h
apart_share (act.Fold at to) (act.Cut a) h = absurd h
apart_share (act.Fold at to) (act.Aim a w b) h = absurd h
apart_share (act.Fold at to) (act.Skip a) h = absurd h
apart_share (act.Drop a b) c h = absurd h
apart_share (act.Cut a) c h = absurd h
apart_share (act.Aim a w b) c h = absurd h
apart_share (act.Skip a) c h = absurd h

by_indices : (acts : List Act) → NamesOnce acts → (before k : ℕ) (b a : Act) → before < k
    → slice_get acts before ≡ Some b → slice_get acts k ≡ Some a → share_place b a ≡ false
by_indices [] h before k b a lt e f = absurd cc
by_indices (x ∷ acts) h before zero b a lt e f = absurd (omega (arith, lt))
by_indices (x ∷ acts) h zero (suc k) b a lt e f =
    let same : x ≡ b = cc in
    apart_share b a (subst (λ y. AreApart y a) same (all_at (AreApart x) acts k a h.0 f))
by_indices (x ∷ acts) h (suc before) (suc k) b a lt e f =
    by_indices acts h.1 before k b a (omega (arith, lt)) e f

-- no place is named by two acts of const
pub own_acts_once : (code : Code) (acts : List Act) → IsConstEdits code acts → (before k : ℕ)
    (b a : Act) → before < k → slice_get acts before ≡ Some b → slice_get acts k ≡ Some a
    → share_place b a ≡ false
own_acts_once code acts own = by_indices acts
    (by (is_beyond (length own.asked) (length code.ins)) own.is)
  where
    by : (b : Bool) → ByBound b code acts → NamesOnce acts
    by true e = subst NamesOnce (sym e) tt
    by false h = subst NamesOnce (sym h.is)
        (acts_once h.known code h.taken (length code.ins)
        (ascends h.known h.taken h.taken_are.ascending))
