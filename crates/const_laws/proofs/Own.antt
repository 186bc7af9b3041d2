-- The acts of the pass on constants are legal.
use Rattle.std.proofs.Common.{ℕ, zero, suc, ◌+◌, ◌-◌, ◌<◌, ◌≤◌, List, [], ◌∷◌, ◌++◌, Option, Some}
use Rattle.std.proofs.Common.{None, Bool, true, false, IsTrue, ◌≡◌, ◌≢◌, ◌⊎◌, inl, inr}
use Rattle.std.proofs.Common.{refl, sym, ap, ◌∙◌, subst, ⊎_elim, arith, length}
use Rattle.std.specs.Prelude.{ℤ, slice_get, nat_le, nat_lt, ◌==◌, ◌&&◌, ◌||◌}
use Rattle.std.specs.Prelude.{if◌then◌else◌}
use Rattle.std.specs.List.{AllByRecursion, Contains, flat_map}
use Rattle.std.specs.Option.{option_and_then, unwrap_or}
use Rattle.std.specs.Ordering.{int_eq}
use Rattle.std.specs.Cmp.{signed_Decides}
use Rattle.std.proofs.lemmas.Bool.Decides.{eqb_tells, leb_tells}
use Rattle.std.proofs.lemmas.Bool.{cases_lt}
use Rattle.std.proofs.lemmas.List.Elements.{All-weaker}
use Rattle.std.proofs.lemmas.List.Elements.{Contains-append_left, Contains-append_right}
use Rattle.std.proofs.lemmas.List.Elements.{Contains-push}
use Rattle.class_model.specs.declared.code.Code.{Code}
use Rattle.class_model.specs.declared.code.Handler.{Handler}
use Rattle.class_model.specs.declared.code.Ins.{Ins}
use Rattle.class_model.specs.declared.op.Kind.TheVariants as kind
use Rattle.class_model.specs.declared.op.Op.{Op}
use Rattle.class_model.specs.declared.op.Op.TheVariants as op
use Rattle.code_edit.specs.declared.act.Act.{Act}
use Rattle.code_edit.specs.declared.act.Act.TheVariants as act
use Rattle.code_edit.specs.Constants.{AreLegalConst, IsLegalConst, IsPlace, OneFold, TwoFold}
use Rattle.code_edit.specs.Constants.{const_at, const_by, const_of, fact_at, facts_of}
use Rattle.code_edit.specs.ConstEdits.{AreConstActs, ByBound, IsAsked, IsConstEdits, IsLoad}
use Rattle.code_edit.specs.ConstEdits.{IsTaken, Run, Shut, Open}
use Rattle.code_edit.specs.ConstEdits.{fold_act, fold_target, folds_below, is_beyond, known_at}
use Rattle.code_edit.specs.ConstEdits.{known_by, known_of, one_at, runs, target_by, target_of}
use Rattle.code_edit.specs.ConstEdits.{two_at}
use Rattle.code_edit.specs.Deciding.{Count, NoOperand, OneOperand, TwoOperands, decided, operands}
use Rattle.code_edit.specs.Facts.{Facts, IsLargest, Yields, change_at, int_in, is_int}
use Rattle.code_edit.specs.Facts.{told as all_told}
use Rattle.code_edit.specs.Flow.{is_target}
use Rattle.code_edit.specs.declared.change.Change.{Change}
use Rattle.code_edit.specs.declared.change.Change.TheVariants.{Keeps, Becomes, Adds, Clobbers}

unequal : {P : Type 0} → true ≡ false → P
unequal e = absurd cc

-- ---- acts that tell what is known, and which places they cover

module _ (known : ℕ → List (Option ℤ)) (Q : ℕ → Type 0) where
  abbrev IsRight : Act → Type 0
  IsRight (act.Fact from to slot v) =
      Q slot × (from ≤ to) × ((j : ℕ) → from ≤ j → j ≤ to → int_in (known slot) j ≡ Some v)
  IsRight a = Unit {0}

  abbrev Covered : List Act → ℕ → ℕ → Type 0
  Covered [] slot j = ⊥
  Covered (act.Fact from to s v ∷ xs) slot j = ((slot ≡ s) × (from ≤ j) × (j ≤ to))
      ⊎ Covered xs slot j
  Covered (a ∷ xs) slot j = Covered xs slot j

  -- a covered place has its fact
  covered_told : (xs : List Act) → AllByRecursion IsRight xs → (slot j : ℕ) (c : ℤ)
      → int_in (known slot) j ≡ Some c
      → Covered xs slot j → fact_at xs slot j ≡ Some c
  covered_told [] h slot j c e k = absurd k
  covered_told (act.Fact from to s v ∷ xs) h slot j c e k =
      by (eqb_tells slot s) (leb_tells from j) (leb_tells j to) k (covered_told xs h.1 slot j c e)
    where
      yes : (a b d : Bool) → a ≡ true → b ≡ true → d ≡ true → (a && (b && d)) ≡ true
      yes true true true x y w = refl
      yes false b d x y w = absurd cc
      yes true false d x y w = absurd cc
      yes true true false x y w = absurd cc

      use_it : (b : Bool) → b ≡ true → v ≡ c → (if b then Some v else fact_at xs slot j) ≡ Some c
      use_it true q w = ap (λ n. Some n) w
      use_it false q w = absurd cc

      either : (b : Bool) → (b ≡ true → v ≡ c) → (fact_at xs slot j ≡ Some c)
          → (if b then Some v else fact_at xs slot j) ≡ Some c
      either true q r = ap (λ n. Some n) (q refl)
      either false q r = r

      here : slot ≡ s → from ≤ j → j ≤ to → v ≡ c
      here q x y =
          let a : int_in (known s) j ≡ Some v = h.0.2 j x y in
          let b : Some v ≡ Some c = sym a ∙ ap (λ n. int_in (known n) j) (sym q) ∙ e in cc

      tested : (a b d : Bool) → (a && (b && d)) ≡ true → (a ≡ true) × (b ≡ true) × (d ≡ true)
      tested true true true x = (refl, refl, refl)
      tested true true false x = absurd cc
      tested true false d x = absurd cc
      tested false b d x = absurd cc

      by : (((slot == s) ≡ true) × (slot ≡ s)) ⊎ (((slot == s) ≡ false) × (slot ≢ s))
          → ((nat_le from j ≡ true) × (from ≤ j)) ⊎ ((nat_le from j ≡ false) × (j < from))
          → ((nat_le j to ≡ true) × (j ≤ to)) ⊎ ((nat_le j to ≡ false) × (to < j))
          → ((slot ≡ s) × (from ≤ j) × (j ≤ to)) ⊎ Covered xs slot j
          → (Covered xs slot j → fact_at xs slot j ≡ Some c)
          → (if (slot == s) && (nat_le from j && nat_le j to) then Some v else fact_at xs slot j)
          ≡ Some c
      by (inl a) (inl b) (inl d) k r =
          use_it ((slot == s) && (nat_le from j && nat_le j to))
          (yes (slot == s) (nat_le from j) (nat_le j to) a.0 b.0 d.0) (here a.1 b.1 d.1)
      by (inl a) (inl b) (inr d) (inl k) r = absurd (omega (arith, k.2, d.1))
      by (inl a) (inr b) d (inl k) r = absurd (omega (arith, k.1, b.1))
      by (inr a) b d (inl k) r = absurd (a.1 k.0)
      by a b d (inr k) r =
          either ((slot == s) && (nat_le from j && nat_le j to)) (λ q. by_test a b d q) (r k)
        where
          by_test : (((slot == s) ≡ true) × (slot ≡ s)) ⊎ (((slot == s) ≡ false) × (slot ≢ s))
              → ((nat_le from j ≡ true) × (from ≤ j)) ⊎ ((nat_le from j ≡ false) × (j < from))
              → ((nat_le j to ≡ true) × (j ≤ to)) ⊎ ((nat_le j to ≡ false) × (to < j))
              → ((slot == s) && (nat_le from j && nat_le j to)) ≡ true → v ≡ c
          by_test (inl a) (inl b) (inl d) q = here a.1 b.1 d.1
          by_test (inl a) (inl b) (inr d) q =
              unequal (sym (tested (slot == s) (nat_le from j) (nat_le j to) q).2 ∙ d.0)
          by_test (inl a) (inr b) d q = unequal
              (sym (tested (slot == s) (nat_le from j) (nat_le j to) q).1 ∙ b.0)
          by_test (inr a) b d q = unequal
              (sym (tested (slot == s) (nat_le from j) (nat_le j to) q).0 ∙ a.0)
  covered_told (act.Fold a b ∷ xs) h slot j c e k = covered_told xs h.1 slot j c e k
  covered_told (act.Drop a b ∷ xs) h slot j c e k = covered_told xs h.1 slot j c e k
  covered_told (act.Cut a ∷ xs) h slot j c e k = covered_told xs h.1 slot j c e k
  covered_told (act.Aim a w b ∷ xs) h slot j c e k = covered_told xs h.1 slot j c e k
  covered_told (act.Skip a ∷ xs) h slot j c e k = covered_told xs h.1 slot j c e k

  right_both : (xs ys : List Act) → AllByRecursion IsRight xs → AllByRecursion IsRight ys
      → AllByRecursion IsRight (xs ++ ys)
  right_both [] ys h k = k
  right_both (x ∷ xs) ys h k = (h.0, right_both xs ys h.1 k)

  covered_left : (xs ys : List Act) (slot j : ℕ) → Covered xs slot j → Covered (xs ++ ys) slot j
  covered_left [] ys slot j h = absurd h
  covered_left (act.Fact a b s v ∷ xs) ys slot j (inl h) = inl h
  covered_left (act.Fact a b s v ∷ xs) ys slot j (inr h) = inr (covered_left xs ys slot j h)
  covered_left (act.Fold a b ∷ xs) ys slot j h = covered_left xs ys slot j h
  covered_left (act.Drop a b ∷ xs) ys slot j h = covered_left xs ys slot j h
  covered_left (act.Cut a ∷ xs) ys slot j h = covered_left xs ys slot j h
  covered_left (act.Aim a w b ∷ xs) ys slot j h = covered_left xs ys slot j h
  covered_left (act.Skip a ∷ xs) ys slot j h = covered_left xs ys slot j h

  covered_right : (xs ys : List Act) (slot j : ℕ) → Covered ys slot j → Covered (xs ++ ys) slot j
  covered_right [] ys slot j h = h
  covered_right (act.Fact a b s v ∷ xs) ys slot j h = inr (covered_right xs ys slot j h)
  covered_right (act.Fold a b ∷ xs) ys slot j h = covered_right xs ys slot j h
  covered_right (act.Drop a b ∷ xs) ys slot j h = covered_right xs ys slot j h
  covered_right (act.Cut a ∷ xs) ys slot j h = covered_right xs ys slot j h
  covered_right (act.Aim a w b ∷ xs) ys slot j h = covered_right xs ys slot j h
  covered_right (act.Skip a ∷ xs) ys slot j h = covered_right xs ys slot j h

  -- ---- runs

  module _ (slot : ℕ) (q : Q slot) where
    -- the run so far is of one int
    abbrev IsRun : ℕ → Run → Type 0
    IsRun i Shut = Unit {0}
    IsRun i (Open from v) = (from < i)
        × ((j : ℕ) → from ≤ j → j < i → int_in (known slot) j ≡ Some v)

    -- the items stand from i on
    abbrev Rest : ℕ → List (Option ℤ) → Type 0
    Rest i hs = (k : ℕ) → int_in hs k ≡ int_in (known slot) (i + k)

    rest_more : (i : ℕ) (h : Option ℤ) (hs : List (Option ℤ)) → Rest i (h ∷ hs) → Rest (i + 1) hs
    rest_more i h hs r k =
        let e : i + suc k ≡ i + 1 + k = omega arith in r (suc k) ∙ ap (int_in (known slot)) e

    rest_here : (i : ℕ) (h : Option ℤ) (hs : List (Option ℤ)) → Rest i (h ∷ hs)
        → int_in (known slot) i ≡ h
    rest_here i h hs r = let e : i + 0 ≡ i = omega arith in sym (ap (int_in (known slot)) e)
        ∙ sym (r 0)

    shut_right : (i from : ℕ) (v : ℤ) → IsRun i (Open from v)
        → IsRight (act.Fact from (i - 1) slot v)
    shut_right i from v run = (
      q,
      (let lt : from < i = run.0 in omega (arith, lt)),
      λ j le to. run.1 j le (let lt : from < i = run.0 in omega (arith, lt, to)),
    )

    begun : (i : ℕ) (w : ℤ) → int_in (known slot) i ≡ Some w → IsRun (i + 1) (Open i w)
    begun i w e = (
      omega arith,
      λ j le lt. let same : i ≡ j = omega (arith, le, lt) in
          ap (int_in (known slot)) (sym same) ∙ e,
    )

    longer : (i from : ℕ) (v w : ℤ) → v ≡ w → int_in (known slot) i ≡ Some w → IsRun i (Open from v)
        → IsRun (i + 1) (Open from v)
    longer i from v w same e run = (
      (let lt : from < i = run.0 in omega (arith, lt)),
      λ j le lt. ⊎_elim (λ b. run.1 j le b)
          (λ b. let here : i ≡ j = omega (arith, b, lt) in
          ap (int_in (known slot)) (sym here) ∙ e ∙ ap (λ z. Some z) (sym same))
          (cases_lt j i),
    )

    runs_right : (i : ℕ) (o : Run) (hs : List (Option ℤ)) → Rest i hs → IsRun i o
        → AllByRecursion IsRight (runs slot i o hs)
    runs_right i Shut [] r run = tt
    runs_right i (Open from v) [] r run = (shut_right i from v run, tt)
    runs_right i Shut (None ∷ hs) r run = runs_right (i + 1) Shut hs (rest_more i None hs r) tt
    runs_right i Shut (Some w ∷ hs) r run =
        runs_right (i + 1) (Open i w) hs (rest_more i (Some w) hs r)
        (begun i w (rest_here i (Some w) hs r))
    runs_right i (Open from v) (None ∷ hs) r run =
        (shut_right i from v run, runs_right (i + 1) Shut hs (rest_more i None hs r) tt)
    runs_right i (Open from v) (Some w ∷ hs) r run =
        by (int_eq v w) (signed_Decides v w).0
        (λ same. runs_right (i + 1) (Open from v) hs (rest_more i (Some w) hs r)
        (longer i from v w same (rest_here i (Some w) hs r) run))
        (runs_right (i + 1) (Open i w) hs (rest_more i (Some w) hs r)
        (begun i w (rest_here i (Some w) hs r)))
      where
        by : (b : Bool) → (b ≡ true → v ≡ w)
            → (v ≡ w → AllByRecursion IsRight (runs slot (i + 1) (Open from v) hs))
            → AllByRecursion IsRight (runs slot (i + 1) (Open i w) hs)
            → AllByRecursion IsRight (if b then runs slot (i + 1) (Open from v) hs
            else act.Fact from (i - 1) slot v ∷ runs slot (i + 1) (Open i w) hs)
        by true e x y = x (e refl)
        by false e x y = (shut_right i from v run, y)

    -- what an open run has covered, and what comes
    abbrev InRun : ℕ → Run → ℕ → Type 0
    InRun i Shut j = ⊥
    InRun i (Open from v) j = (from ≤ j) × (j < i)

    abbrev Due : ℕ → Run → List (Option ℤ) → ℕ → Type 0
    Due i o hs j = InRun i o j ⊎ ((k : ℕ) × (c : ℤ) × (j ≡ i + k) × (int_in hs k ≡ Some c))

    due_on : (i : ℕ) (o : Run) (h : Option ℤ) (hs : List (Option ℤ)) (j k : ℕ) (c : ℤ)
        → j ≡ i + suc k
        → int_in hs k ≡ Some c → Due (i + 1) o hs j
    due_on i o h hs j k c e f = inr (k, c, omega (arith, e), f)

    abbrev Starts : ℕ → Run → Type 0
    Starts i Shut = Unit {0}
    Starts i (Open from v) = from ≤ i

    runs_cover : (i : ℕ) (o : Run) (hs : List (Option ℤ)) (j : ℕ) → Starts i o → Due i o hs j
        → Covered (runs slot i o hs) slot j
    runs_cover i Shut [] j s (inl d) = absurd d
    runs_cover i Shut [] j s (inr d) = absurd (let q : None ≡ Some d.1 = d.3 in cc)
    runs_cover i (Open from v) [] j s (inl d) = inl
        (refl, d.0, (let lt : j < i = d.1 in omega (arith, lt)))
    runs_cover i (Open from v) [] j s (inr d) = absurd (let q : None ≡ Some d.1 = d.3 in cc)
    runs_cover i Shut (None ∷ hs) j s (inl d) = absurd d
    runs_cover i Shut (None ∷ hs) j s (inr (zero, c, e, f)) = absurd cc
    runs_cover i Shut (None ∷ hs) j s (inr (suc k, c, e, f)) = runs_cover (i + 1) Shut hs j tt
        (due_on i Shut None hs j k c e f)
    runs_cover i Shut (Some w ∷ hs) j s (inl d) = absurd d
    runs_cover i Shut (Some w ∷ hs) j s (inr (zero, c, e, f)) =
        runs_cover (i + 1) (Open i w) hs j (omega arith) (inl (omega (arith, e), omega (arith, e)))
    runs_cover i Shut (Some w ∷ hs) j s (inr (suc k, c, e, f)) =
        runs_cover (i + 1) (Open i w) hs j (omega arith) (due_on i (Open i w) (Some w) hs j k c e f)
    runs_cover i (Open from v) (None ∷ hs) j s (inl d) = inl
        (refl, d.0, (let lt : j < i = d.1 in omega (arith, lt)))
    runs_cover i (Open from v) (None ∷ hs) j s (inr (zero, c, e, f)) = absurd cc
    runs_cover i (Open from v) (None ∷ hs) j s (inr (suc k, c, e, f)) =
        inr (runs_cover (i + 1) Shut hs j tt (due_on i Shut None hs j k c e f))
    runs_cover i (Open from v) (Some w ∷ hs) j s d =
        by (int_eq v w) (due_same d s) (due_other d)
        (λ x. runs_cover (i + 1) (Open from v) hs j (let q : from ≤ i = s in omega (arith, q)) x)
        (λ x. runs_cover (i + 1) (Open i w) hs j (omega arith) x)
      where
        due_same : Due i (Open from v) (Some w ∷ hs) j → (from ≤ i → Due (i + 1) (Open from v) hs j)
        due_same (inl d) q = inl (d.0, (let lt : j < i = d.1 in omega (arith, lt)))
        due_same (inr (zero, c, e, f)) q = inl (omega (arith, e, q), omega (arith, e))
        due_same (inr (suc k, c, e, f)) q = due_on i (Open from v) (Some w) hs j k c e f

        due_other : Due i (Open from v) (Some w ∷ hs) j
            → ((from ≤ j) × (j ≤ i - 1)) ⊎ Due (i + 1) (Open i w) hs j
        due_other (inl d) = inl (d.0, (let lt : j < i = d.1 in omega (arith, lt)))
        due_other (inr (zero, c, e, f)) = inr (inl (omega (arith, e), omega (arith, e)))
        due_other (inr (suc k, c, e, f)) = inr (due_on i (Open i w) (Some w) hs j k c e f)

        by : (b : Bool) → Due (i + 1) (Open from v) hs j
            → ((from ≤ j) × (j ≤ i - 1)) ⊎ Due (i + 1) (Open i w) hs j
            → (Due (i + 1) (Open from v) hs j → Covered (runs slot (i + 1) (Open from v) hs) slot j)
            → (Due (i + 1) (Open i w) hs j → Covered (runs slot (i + 1) (Open i w) hs) slot j)
            → Covered (if b then runs slot (i + 1) (Open from v) hs
            else act.Fact from (i - 1) slot v ∷ runs slot (i + 1) (Open i w) hs) slot j
        by true x y r t = r x
        by false x (inl y) r t = inl (refl, y.0, y.1)
        by false x (inr y) r t = inr (t y)

  -- ---- the acts of slots

  abbrev acts_of : List ℕ → List Act
  acts_of slots = flat_map (λ slot. runs slot 0 Shut (known slot)) slots

  slots_right : (slots : List ℕ) → ((s : ℕ) → Contains slots s → Q s)
      → AllByRecursion IsRight (acts_of slots)
  slots_right [] q = tt
  slots_right (s ∷ slots) q =
      let here : Q s = q s (Contains-append_left (s ∷ []) slots s (Contains-push [] s)) in
      right_both (runs s 0 Shut (known s)) (acts_of slots)
      (runs_right s here 0 Shut (known s)
      (λ k. let e : k ≡ 0 + k = omega arith in ap (int_in (known s)) e) tt)
      (slots_right slots (λ x h. q x (Contains-append_right (s ∷ []) slots x h)))

  in_cons : (s : ℕ) (slots : List ℕ) (slot : ℕ) → Contains (s ∷ slots) slot
      → (s ≡ slot) ⊎ Contains slots slot
  in_cons s slots slot (zero, lt, e) = inl e
  in_cons s slots slot (suc k, lt, e) = inr (k, omega (arith, lt), e)

  slots_cover : (slots : List ℕ) (slot j : ℕ) (c : ℤ) → Q slot → Contains slots slot
      → int_in (known slot) j ≡ Some c → Covered (acts_of slots) slot j
  slots_cover [] slot j c q h e = absurd (let lt : h.0 < 0 = h.1 in omega (arith, lt))
  slots_cover (s ∷ slots) slot j c q h e = by (in_cons s slots slot h)
      (λ k. slots_cover slots slot j c q k e)
    where
      by : (s ≡ slot) ⊎ Contains slots slot → (Contains slots slot → Covered (acts_of slots) slot j)
          → Covered (runs s 0 Shut (known s) ++ acts_of slots) slot j
      by (inl same) r =
          covered_left (runs s 0 Shut (known s)) (acts_of slots) slot j
          (subst (λ x. Covered (runs x 0 Shut (known x)) slot j) (sym same)
          (runs_cover slot q 0 Shut (known slot) j tt
          (inr (j, c, (let p : j ≡ 0 + j = omega arith in p), e))))
      by (inr k) r = covered_right (runs s 0 Shut (known s)) (acts_of slots) slot j (r k)

-- ---- all acts

yields_more : (a b : Facts) (p : ℕ) (c : ℤ) → ((d : ℤ) → IsTrue (a p d) → IsTrue (b p d))
    → (ch : Change) → Yields a p c ch
    → Yields b p c ch
yields_more a b p c more Keeps h = more c h
yields_more a b p c more (Becomes v) h = h
yields_more a b p c more (Adds k) h = (h.0, more h.0 h.1, h.2)
yields_more a b p c more Clobbers h = h

bind_inv : (d : Option (Option ℕ)) (g : Option ℕ → ℕ) (to : ℕ)
    → option_and_then (λ p. Some (g p)) d ≡ Some to
    → (p : Option ℕ) × (d ≡ Some p) × (g p ≡ to)
bind_inv None g to e = absurd cc
bind_inv (Some p) g to e = (p, refl, cc)

one_inv : (b : Bool) (k : Option ℤ) (d : ℤ → Option (Option ℕ)) (g : Option ℕ → ℕ) (to : ℕ)
    → (if b then None else option_and_then (λ z. option_and_then (λ p. Some (g p)) (d z)) k)
    ≡ Some to
    → (b ≡ false) × (z : ℤ) × (k ≡ Some z) × (p : Option ℕ) × (d z ≡ Some p) × (g p ≡ to)
one_inv true k d g to e = absurd cc
one_inv false None d g to e = absurd cc
one_inv false (Some z) d g to e = let r = bind_inv (d z) g to e in (refl, z, refl, r.0, r.1, r.2)

two_inv : (b : Bool) (k l : Option ℤ) (d : ℤ → ℤ → Option (Option ℕ)) (g : Option ℕ → ℕ) (to : ℕ)
    → (if b then None else option_and_then (λ x. option_and_then (λ y. option_and_then
    (λ p. Some (g p)) (d x y)) l) k) ≡ Some to
    → (b ≡ false) × (x : ℤ) × (k ≡ Some x) × (y : ℤ) × (l ≡ Some y) × (p : Option ℕ)
    × (d x y ≡ Some p) × (g p ≡ to)
two_inv true k l d g to e = absurd cc
two_inv false None l d g to e = absurd cc
two_inv false (Some x) None d g to e = absurd cc
two_inv false (Some x) (Some y) d g to e = let r = bind_inv (d x y) g to e in
    (refl, x, refl, y, refl, r.0, r.1, r.2)

or_false : (a b : Bool) → (a || b) ≡ false → (a ≡ false) × (b ≡ false)
or_false true b e = absurd cc
or_false false b e = (refl, e)

not_less : (a b : ℕ) → nat_lt a b ≡ false → b ≤ a
not_less a b e = by (leb_tells (suc a) b)
  where
    by : ((nat_lt a b ≡ true) × (suc a ≤ b)) ⊎ ((nat_lt a b ≡ false) × (b < suc a)) → b ≤ a
    by (inl x) = unequal (sym x.0 ∙ e)
    by (inr x) = omega (arith, x.1)

-- a taken slot is asked
pub taken_asked : (known : ℕ → List (Option ℤ)) (code : Code) (slot : ℕ) → IsTaken known code slot
    → IsAsked code slot
taken_asked known code slot h = (h.0, h.2, h.3, (λ n. none_folds h.0 h.1 h.2 n h.3 h.4), h.5)
  where
    none_folds : (at to : ℕ) (i : Ins) → operands i.op ≡ NoOperand → slice_get code.ins at ≡ Some i
        → fold_target known code at ≡ Some to → ⊥
    none_folds at to i n here e =
        let q : None ≡ Some to = sym (ap (target_of known code at) here
        ∙ ap (λ k. target_by known code k at i.op) n) ∙ e in cc

module _ (code : Code) (acts : List Act) (own : AreConstActs code acts) where
  abbrev Q : ℕ → Type 0
  Q slot = Contains own.taken slot

  big : (slot : ℕ) → Q slot → IsLargest code slot (own.known slot)
  big slot q = own.largest slot (taken_asked own.known code slot ((own.taken_are.are slot).0 q))

  abbrev facts : List Act
  facts = acts_of own.known Q own.taken

  folds_right : (n : ℕ) → AllByRecursion (IsRight own.known Q) (folds_below own.known code n)
  folds_right zero = tt
  folds_right (suc n) =
      right_both own.known Q (folds_below own.known code n)
      (fold_act own.known code n (fold_target own.known code n))
      (folds_right n) (by (fold_target own.known code n))
    where
      by : (o : Option ℕ) → AllByRecursion (IsRight own.known Q) (fold_act own.known code n o)
      by None = tt
      by (Some to) = (tt, tt)

  all_right : AllByRecursion (IsRight own.known Q) acts
  all_right = subst (AllByRecursion (IsRight own.known Q)) (sym own.is)
      (right_both own.known Q facts (folds_below own.known code (length code.ins))
      (slots_right own.known Q own.taken (λ s h. h)) (folds_right (length code.ins)))

  fact_is : (slot j : ℕ) (c : ℤ) → Q slot → int_in (own.known slot) j ≡ Some c
      → fact_at acts slot j ≡ Some c
  fact_is slot j c q e = covered_told own.known Q acts all_right slot j c e
      (subst (λ l. Covered own.known Q l slot j) (sym own.is)
      (covered_left own.known Q facts (folds_below own.known code (length code.ins)) slot j
      (slots_cover own.known Q own.taken slot j c q q e)))

  int_told : (o : Option ℤ) (z : ℤ) → o ≡ Some z → IsTrue (is_int o z)
  int_told o z e = subst (λ x. IsTrue (is_int x z)) (sym e) ((signed_Decides z z).1 refl)

  told_int : (o : Option ℤ) (z : ℤ) → IsTrue (is_int o z) → o ≡ Some z
  told_int None z e = absurd cc
  told_int (Some v) z e = ap (λ n. Some n) ((signed_Decides v z).0 e)

  more : (slot : ℕ) (q : Q slot) (p : ℕ) (d : ℤ) → IsTrue (all_told (own.known slot) p d)
      → IsTrue (facts_of acts slot p d)
  more slot q p d h =
      int_told (fact_at acts slot p) d
      (fact_is slot p d q (told_int (int_in (own.known slot) p) d h))

  abbrev facts_at : ℕ → Facts
  facts_at slot = all_told (own.known slot)

  place : (slot : ℕ) → Q slot → (at : ℕ) (v : ℤ) → int_in (own.known slot) at ≡ Some v
      → IsPlace acts code slot at v
  place slot q at v e =
      let all = big slot q in
      let fact : IsTrue (facts_at slot at v) = int_told (int_in (own.known slot) at) v e in
      record {
        below = all.supported.within at v fact;
        inside = λ z. all.supported.first v (subst (λ n. IsTrue (facts_at slot n v)) z fact);
        handlers = All-weaker (λ (h : Handler). (c : ℤ) → IsTrue (facts_at slot h.entry c) → ⊥)
            (λ (h : Handler). h.entry ≢ at)
            (λ h k z. k v (subst (λ n. IsTrue (facts_at slot n v)) (sym z) fact)) code.handlers
            all.supported.handlers;
        supported = λ p lt next. yields_more (facts_at slot) (facts_of acts slot) p v
            (λ d h. more slot q p d h)
            (change_at code slot p) (all.supported.flows p at v lt next fact);
      }

  -- ---- folds

  const_from : (n : ℕ) (z : ℤ) → ((slot : ℕ) → IsLoad code slot n → Q slot)
      → known_at own.known code n ≡ Some z → const_at acts code n ≡ Some z
  const_from n z loaded e = by_ins (slice_get code.ins n) refl e
    where
      by_op : (i : Ins) → slice_get code.ins n ≡ Some i → (o : Op) → i.op ≡ o
          → known_of own.known code n o ≡ Some z
          → const_of acts n o ≡ Some z
      by_op i h (op.PushInt v) q e = e
      by_op i h (op.Load kind.Int slot) q e =
          fact_is slot n z (loaded slot (i, h, q)) e
      by_op i h o q e = absurd cc

      by_ins : (o : Option Ins) → slice_get code.ins n ≡ o → known_by own.known code n o ≡ Some z
          → const_by acts n o ≡ Some z
      by_ins None h e = absurd cc
      by_ins (Some i) h e = by_op i h i.op refl e

  fold_legal : (at to : ℕ) → fold_target own.known code at ≡ Some to
      → OneFold acts code at to ⊎ TwoFold acts code at to
  fold_legal at to e = by_ins (slice_get code.ins at) refl e
    where
      at_one : (i : Ins) → slice_get code.ins at ≡ Some i → one_at own.known code at i.op ≡ Some to
          → OneFold acts code at to
      at_one i h t =
          let r = one_inv (nat_lt at 1 || is_target code at) (known_at own.known code (at - 1))
          (λ z. decided i.op (z ∷ [])) (λ p. unwrap_or p (at + 1)) to t in
          let b = or_false (nat_lt at 1) (is_target code at) r.0 in
          record {
            ins = i;
            here = h;
            behind = not_less at 1 b.0;
            value = r.1;
            is = const_from (at - 1) r.1
                (λ slot l. (own.taken_are.are slot).1 (at, to, i, h, e, inl l)) r.2;
            free = b.1;
            point = r.3;
            decides = r.4;
            leads = r.5;
          }

      at_two : (i : Ins) → slice_get code.ins at ≡ Some i → operands i.op ≡ TwoOperands
          → two_at own.known code at i.op ≡ Some to → TwoFold acts code at to
      at_two i h n t =
          let r = two_inv (nat_lt at 2 || (is_target code at || is_target code (at - 1)))
          (known_at own.known code (at - 2)) (known_at own.known code (at - 1))
          (λ a b. decided i.op (b ∷ a ∷ [])) (λ p. unwrap_or p (at + 1)) to t in
          let b = or_false (nat_lt at 2) (is_target code at || is_target code (at - 1)) r.0 in
          let c = or_false (is_target code at) (is_target code (at - 1)) b.1 in
          record {
            ins = i;
            here = h;
            behind = not_less at 2 b.0;
            first = r.1;
            first_is = const_from (at - 2) r.1
                (λ slot l. (own.taken_are.are slot).1 (at, to, i, h, e, inr (n, l))) r.2;
            second = r.3;
            second_is = const_from (at - 1) r.3
                (λ slot l. (own.taken_are.are slot).1 (at, to, i, h, e, inl l)) r.4;
            free = c.0;
            second_free = c.1;
            point = r.5;
            decides = r.6;
            leads = r.7;
          }

      by_count : (i : Ins) → slice_get code.ins at ≡ Some i → (n : Count) → operands i.op ≡ n
          → target_by own.known code n at i.op ≡ Some to
          → OneFold acts code at to ⊎ TwoFold acts code at to
      by_count i h OneOperand n t = inl (at_one i h t)
      by_count i h TwoOperands n t = inr (at_two i h n t)
      by_count i h NoOperand n t = absurd cc

      by_ins : (o : Option Ins) → slice_get code.ins at ≡ o
          → target_of own.known code at o ≡ Some to
          → OneFold acts code at to ⊎ TwoFold acts code at to
      by_ins None h t = absurd cc
      by_ins (Some i) h t = by_count i h (operands i.op) refl t

  -- ---- the law

  abbrev Legal : Act → Type 0
  Legal = IsLegalConst acts code

  legal_both : (xs ys : List Act) → AllByRecursion Legal xs → AllByRecursion Legal ys
      → AllByRecursion Legal (xs ++ ys)
  legal_both [] ys h k = k
  legal_both (x ∷ xs) ys h k = (h.0, legal_both xs ys h.1 k)

  folds_legal : (n : ℕ) → AllByRecursion Legal (folds_below own.known code n)
  folds_legal zero = tt
  folds_legal (suc n) =
      legal_both (folds_below own.known code n)
      (fold_act own.known code n (fold_target own.known code n))
      (folds_legal n) (by (fold_target own.known code n) refl)
    where
      by : (o : Option ℕ) → fold_target own.known code n ≡ o
          → AllByRecursion Legal (fold_act own.known code n o)
      by None e = tt
      by (Some to) e = (fold_legal n to e, tt)

  fact_legal : (slot : ℕ) → Q slot → (from to : ℕ) (v : ℤ)
      → IsRight own.known Q (act.Fact from to slot v)
      → Legal (act.Fact from to slot v)
  fact_legal slot q from to v h = (h.1, λ at le up. place slot q at v (h.2 at le up))

  runs_legal : (slot i : ℕ) (o : Run) (hs : List (Option ℤ))
      → AllByRecursion (IsRight own.known Q) (runs slot i o hs)
      → AllByRecursion Legal (runs slot i o hs)
  runs_legal slot i Shut [] h = tt
  runs_legal slot i (Open from v) [] h = (fact_legal slot h.0.0 from (i - 1) v h.0, tt)
  runs_legal slot i Shut (None ∷ hs) h = runs_legal slot (i + 1) Shut hs h
  runs_legal slot i Shut (Some w ∷ hs) h = runs_legal slot (i + 1) (Open i w) hs h
  runs_legal slot i (Open from v) (None ∷ hs) h =
      (fact_legal slot h.0.0 from (i - 1) v h.0, runs_legal slot (i + 1) Shut hs h.1)
  runs_legal slot i (Open from v) (Some w ∷ hs) h =
      by (int_eq v w) h (runs_legal slot (i + 1) (Open from v) hs)
      (runs_legal slot (i + 1) (Open i w) hs)
    where
      by : (b : Bool) → AllByRecursion (IsRight own.known Q)
          (if b then runs slot (i + 1) (Open from v) hs
          else act.Fact from (i - 1) slot v ∷ runs slot (i + 1) (Open i w) hs)
          → (AllByRecursion (IsRight own.known Q) (runs slot (i + 1) (Open from v) hs)
          → AllByRecursion Legal (runs slot (i + 1) (Open from v) hs))
          → (AllByRecursion (IsRight own.known Q) (runs slot (i + 1) (Open i w) hs)
          → AllByRecursion Legal (runs slot (i + 1) (Open i w) hs))
          → AllByRecursion Legal (if b then runs slot (i + 1) (Open from v) hs
          else act.Fact from (i - 1) slot v ∷ runs slot (i + 1) (Open i w) hs)
      by true h x y = x h
      by false h x y = (fact_legal slot h.0.0 from (i - 1) v h.0, y h.1)

  slots_legal : (slots : List ℕ) → ((s : ℕ) → Contains slots s → Q s)
      → AllByRecursion Legal (acts_of own.known Q slots)
  slots_legal [] q = tt
  slots_legal (s ∷ slots) q =
      let here : Q s = q s (Contains-append_left (s ∷ []) slots s (Contains-push [] s)) in
      legal_both (runs s 0 Shut (own.known s)) (acts_of own.known Q slots)
      (runs_legal s 0 Shut (own.known s)
      (runs_right own.known Q s here 0 Shut (own.known s)
      (λ k. let e : k ≡ 0 + k = omega arith in ap (int_in (own.known s)) e) tt))
      (slots_legal slots (λ x h. q x (Contains-append_right (s ∷ []) slots x h)))

  listed_legal : AreLegalConst acts code
  listed_legal = subst (AllByRecursion Legal) (sym own.is)
      (legal_both facts (folds_below own.known code (length code.ins))
      (slots_legal own.taken (λ s h. h))
      (folds_legal (length code.ins)))

-- each act of const is legal
pub own_acts_legal : (code : Code) (acts : List Act) → IsConstEdits code acts
    → AreLegalConst acts code
own_acts_legal code acts own = by (is_beyond (length own.asked) (length code.ins)) own.is
  where
    by : (b : Bool) → ByBound b code acts → AreLegalConst acts code
    by true e = subst (λ xs. AllByRecursion (IsLegalConst acts code) xs) (sym e) tt
    by false h = listed_legal code acts h
