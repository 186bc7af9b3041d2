-- What jumps finds is legal.
use Rattle.std.proofs.Common.{ℕ, zero, suc, ◌+◌, ◌<◌, ◌≤◌, List, [], ◌∷◌, ◌++◌, Option, Some, None}
use Rattle.std.proofs.Common.{Bool, true, false, ◌≡◌, ◌≢◌, ◌⊎◌, inl, inr, refl, sym, ap, ◌∙◌}
use Rattle.std.proofs.Common.{subst, arith}
use Rattle.std.specs.Prelude.{length, nat_eq, not, slice_get, ◌&&◌, ◌==◌}
use Rattle.std.specs.Prelude.{if◌then◌else◌}
use Rattle.std.specs.Option.{unwrap_or}
use Rattle.std.proofs.lemmas.Bool.Decides.{eqb_tells}
use Rattle.jv_base.proofs.Lists.{all_at, all_from}
use Rattle.class_model.specs.declared.code.Code.{Code}
use Rattle.class_model.specs.declared.code.Ins.{Ins}
use Rattle.class_model.specs.declared.op.Op.{Op}
use Rattle.class_model.specs.declared.op.Op.TheVariants as op
use Rattle.code_edit.specs.declared.act.Act.{Act}
use Rattle.code_edit.specs.declared.act.Act.TheVariants as act
use Rattle.code_edit.specs.declared.act.Pass.TheVariants as pass
use Rattle.code_edit.specs.Flow.{of_ins, targets}
use Rattle.code_edit.specs.Jumps.{AreLegalJumps, FollowsGotos, IsLegalJump, Leads, aim, is_goto}
use Rattle.code_edit.specs.Jumps.{skip_target, stays}
use Rattle.code_edit.specs.Legal.{AreLegal, KeepsLast, share_place}
use Rattle.code_edit.specs.Passes.{EndIs, TellsEnds, aims_from, aims_on, end_of, leads_next}
use Rattle.code_edit.specs.Passes.{skips_from}
use Rattle.code_edit.specs.SoundCode.{IsSound}
use Rattle.edit_premises.proofs.AppliedSound.{not_skipped}
use Rattle.edit_premises.proofs.Places.{get_below}
use Rattle.edit_laws.proofs.FoundReach.{and_none}
use Rattle.edit_laws.proofs.FoundSlots.{differ, itself}

numbers_same : (n m : ℕ) → (n == m) ≡ true → n ≡ m
numbers_same n m e = by (eqb_tells n m)
  where
    by : ((nat_eq n m ≡ true) × (n ≡ m)) ⊎ ((nat_eq n m ≡ false) × (n ≢ m)) → n ≡ m
    by (inl q) = q.1
    by (inr q) = absurd (let no : true ≡ false = sym e ∙ q.0 in cc)

differ_back : (a b : ℕ) → b < a → (a == b) ≡ false
differ_back a b lt = by (eqb_tells a b)
  where
    by : ((nat_eq a b ≡ true) × (a ≡ b)) ⊎ ((nat_eq a b ≡ false) × (a ≢ b)) → nat_eq a b ≡ false
    by (inl q) = absurd (omega (arith, lt, q.1))
    by (inr q) = q.0

-- a target stands before another one
abbrev Before : ℕ → ℕ → ℕ → ℕ → Type 0
Before at which place number = (at < place) ⊎ ((at ≡ place) × (which < number))

apart_by : (at which place number : ℕ) → Before at which place number
    → (at == place && which == number) ≡ false
apart_by at which place number (inl lt) =
    ap (λ b. b && which == number) (differ at place lt)
apart_by at which place number (inr x) =
    and_none (at == place) (which == number) (differ which number x.1)

module _ (code : Code) (ends : ℕ → Option ℕ) where
  -- the aim is of such a target, to the end of its chain, which isn't the target
  abbrev Aimed : ℕ → ℕ → ℕ → Type 0
  Aimed at which to = (i : Ins) × (old : ℕ) × (slice_get code.ins at ≡ Some i)
      × (slice_get (targets i.op) which ≡ Some old) × (to ≡ end_of ends old)
      × ((end_of ends old == old) ≡ false)

  abbrev Skipped : ℕ → Type 0
  Skipped at = (i : Ins) × (to : ℕ) × (slice_get code.ins at ≡ Some i)
      × (skip_target i.op ≡ Some to) × (end_of ends to ≡ at + 1)

  -- skips, ascending from an index on
  abbrev AreSkips : ℕ → List Act → Type 0
  AreSkips low [] = Unit {0}
  AreSkips low (act.Skip at ∷ acts) = (low ≤ at) × Skipped at × AreSkips (at + 1) acts
  AreSkips low (a ∷ acts) = ⊥

  -- a target or one behind it
  abbrev From : ℕ → ℕ → ℕ → ℕ → Type 0
  From at which place number = (at < place) ⊎ ((at ≡ place) × (which ≤ number))

  -- aims, ascending from a target on, and then skips
  abbrev AreJumps : ℕ → ℕ → List Act → Type 0
  AreJumps at which [] = Unit {0}
  AreJumps at which (act.Aim place number to ∷ acts) =
      From at which place number × Aimed place number to × AreJumps place (number + 1) acts
  AreJumps at which (act.Skip place ∷ acts) = AreSkips 0 (act.Skip place ∷ acts)
  AreJumps at which (act.Drop from to ∷ acts) = ⊥
  AreJumps at which (act.Fact from to slot value ∷ acts) = ⊥
  AreJumps at which (act.Fold place to ∷ acts) = ⊥
  AreJumps at which (act.Cut place ∷ acts) = ⊥

  from_on : (at which place number spot digit : ℕ) → From at which place number
      → From place number spot digit → From at which spot digit
  from_on at which place number spot digit (inl a) (inl b) = inl (omega (arith, a, b))
  from_on at which place number spot digit (inl a) (inr b) = inl (omega (arith, a, b.0))
  from_on at which place number spot digit (inr a) (inl b) = inl (omega (arith, a.0, b))
  from_on at which place number spot digit (inr a) (inr b) =
      inr (omega (arith, a.0, b.0), omega (arith, a.1, b.1))

  later : (at which place number : ℕ) → From at which place number → (acts : List Act)
      → AreJumps place number acts → AreJumps at which acts
  later at which place number f [] are = tt
  later at which place number f (act.Aim spot digit to ∷ acts) are =
      (from_on at which place number spot digit f are.0, are.1, are.2)
  later at which place number f (act.Skip spot ∷ acts) are = are
  later at which place number f (act.Drop from to ∷ acts) are = are
  later at which place number f (act.Fact from to slot value ∷ acts) are = are
  later at which place number f (act.Fold spot to ∷ acts) are = are
  later at which place number f (act.Cut spot ∷ acts) are = are

  -- ---- what is found

  aims_are : (ts : List ℕ) (at which : ℕ) (i : Ins) (rest : List Act)
      → slice_get code.ins at ≡ Some i
      → ((j t : ℕ) → slice_get ts j ≡ Some t → slice_get (targets i.op) (which + j) ≡ Some t)
      → AreJumps (at + 1) 0 rest → AreJumps at which (aims_on ends at which ts ++ rest)
  aims_are [] at which i rest e each are = later at which (at + 1) 0 (inl (omega arith)) rest are
  aims_are (t ∷ ts) at which i rest e each are =
      by (end_of ends t == t) refl
      (aims_are ts at (suc which) i rest e
      (λ j u x. let z : which + suc j ≡ suc which + j = omega arith in
      subst (λ m. slice_get (targets i.op) m ≡ Some u) z (each (suc j) u x)) are)
    where
      here : slice_get (targets i.op) which ≡ Some t
      here = let z : which + 0 ≡ which = omega arith in
          subst (λ m. slice_get (targets i.op) m ≡ Some t) z (each 0 t refl)

      by : (b : Bool) → (end_of ends t == t) ≡ b
          → AreJumps at (suc which) (aims_on ends at (suc which) ts ++ rest)
          → AreJumps at which ((if b then aims_on ends at (suc which) ts
          else act.Aim at which (end_of ends t) ∷ aims_on ends at (suc which) ts) ++ rest)
      by true q more =
          later at which at (suc which) (inr (refl, omega arith))
          (aims_on ends at (suc which) ts ++ rest) more
      by false q more =
          let z : suc which ≡ which + 1 = omega arith in (
            inr (refl, omega arith),
            (i, t, e, here, refl, q),
            subst (λ m. AreJumps at m (aims_on ends at (suc which) ts ++ rest)) z more,
          )

  append_later : (xs ys zs : List Act) → (xs ++ ys) ++ zs ≡ xs ++ (ys ++ zs)
  append_later [] ys zs = refl
  append_later (x ∷ xs) ys zs = ap (λ (t : List Act). x ∷ t) (append_later xs ys zs)

  abbrev AreRest : ℕ → List Ins → Type 0
  AreRest k ins =
      (j : ℕ) (i : Ins) → slice_get ins j ≡ Some i → slice_get code.ins (k + j) ≡ Some i

  rest_next : (k : ℕ) (x : Ins) (ins : List Ins) → AreRest k (x ∷ ins) → AreRest (suc k) ins
  rest_next k x ins rest j i e =
      let z : suc k + j ≡ k + suc j = omega arith in
      ap (slice_get code.ins) z ∙ rest (suc j) i e

  here_is : (k : ℕ) (x : Ins) (ins : List Ins) → AreRest k (x ∷ ins)
      → slice_get code.ins k ≡ Some x
  here_is k x ins rest =
      let z : k ≡ k + 0 = omega arith in ap (slice_get code.ins) z ∙ rest 0 x refl

  skips_jump : (acts : List Act) (at which : ℕ) → AreSkips 0 acts → AreJumps at which acts
  skips_jump [] at which are = tt
  skips_jump (act.Skip place ∷ acts) at which are = are
  skips_jump (act.Aim place number to ∷ acts) at which are = absurd are
  skips_jump (act.Drop from to ∷ acts) at which are = absurd are
  skips_jump (act.Fact from to slot value ∷ acts) at which are = absurd are
  skips_jump (act.Fold place to ∷ acts) at which are = absurd are
  skips_jump (act.Cut place ∷ acts) at which are = absurd are

  all_aims : (ins : List Ins) (k : ℕ) (skips : List Act) → AreRest k ins → AreSkips 0 skips
      → AreJumps k 0 (aims_from ends k ins ++ skips)
  all_aims [] k skips rest are = skips_jump skips k 0 are
  all_aims (i ∷ ins) k skips rest are =
      let more = all_aims ins (suc k) skips (rest_next k i ins rest) are in
      let z : suc k ≡ k + 1 = omega arith in
      subst (AreJumps k 0)
      (sym (append_later (aims_on ends k 0 (targets i.op)) (aims_from ends (suc k) ins) skips))
      (aims_are (targets i.op) k 0 i (aims_from ends (suc k) ins ++ skips)
      (here_is k i ins rest)
      (λ j t x. let y : j ≡ 0 + j = omega arith in
      subst (λ m. slice_get (targets i.op) m ≡ Some t) y x)
      (subst (λ m. AreJumps m 0 (aims_from ends (suc k) ins ++ skips)) z more))

  skips_are : (ins : List Ins) (k low : ℕ) → low ≤ k → AreRest k ins
      → AreSkips low (skips_from ends k ins)
  skips_are [] k low le rest = tt
  skips_are (i ∷ ins) k low le rest =
      by (skip_target i.op) refl
      (λ low' le'. skips_are ins (suc k) low' le' (rest_next k i ins rest))
    where
      inner : (to : ℕ) → skip_target i.op ≡ Some to → (b : Bool) → (end_of ends to == k + 1) ≡ b
          → ((low' : ℕ) → low' ≤ suc k → AreSkips low' (skips_from ends (suc k) ins))
          → AreSkips low (if b then act.Skip k ∷ skips_from ends (suc k) ins
          else skips_from ends (suc k) ins)
      inner to t true e more = (
        le,
        (i, to, here_is k i ins rest, t, numbers_same (end_of ends to) (k + 1) e),
        more (k + 1) (omega arith),
      )
      inner to t false e more = more low (omega (arith, le))

      by : (o : Option ℕ) → skip_target i.op ≡ o
          → ((low' : ℕ) → low' ≤ suc k → AreSkips low' (skips_from ends (suc k) ins))
          → AreSkips low (if leads_next ends k o then act.Skip k ∷ skips_from ends (suc k) ins
          else skips_from ends (suc k) ins)
      by None e more = more low (omega (arith, le))
      by (Some to) e more = inner to e (end_of ends to == k + 1) refl more

  -- ---- one act

  abbrev OneAim : ℕ → ℕ → Act → Type 0
  OneAim at which a = (place number to : ℕ) × (a ≡ act.Aim place number to)
      × From at which place number × Aimed place number to

  abbrev OneSkip : ℕ → Act → Type 0
  OneSkip low a = (place : ℕ) × (a ≡ act.Skip place) × (low ≤ place) × Skipped place

  one_skip : (acts : List Act) (low j : ℕ) (a : Act) → AreSkips low acts
      → slice_get acts j ≡ Some a → OneSkip low a
  one_skip [] low j a are e = absurd cc
  one_skip (act.Skip at ∷ acts) low zero a are e =
      let same : act.Skip at ≡ a = cc in (at, sym same, are.0, are.1)
  one_skip (act.Skip at ∷ acts) low (suc j) a are e =
      let x = one_skip acts (at + 1) j a are.2 e in
      (x.0, x.1, omega (arith, x.2, are.0), x.3)
  one_skip (act.Aim place number to ∷ acts) low j a are e = absurd are
  one_skip (act.Drop from to ∷ acts) low j a are e = absurd are
  one_skip (act.Fact from to slot value ∷ acts) low j a are e = absurd are
  one_skip (act.Fold place to ∷ acts) low j a are e = absurd are
  one_skip (act.Cut place ∷ acts) low j a are e = absurd are

  one_jump : (acts : List Act) (at which j : ℕ) (a : Act) → AreJumps at which acts
      → slice_get acts j ≡ Some a → OneAim at which a ⊎ OneSkip 0 a
  one_jump [] at which j a are e = absurd cc
  one_jump (act.Aim place number to ∷ acts) at which zero a are e =
      let same : act.Aim place number to ≡ a = cc in
      inl (place, number, to, sym same, are.0, are.1)
  one_jump (act.Aim place number to ∷ acts) at which (suc j) a are e =
      by (one_jump acts place (number + 1) j a are.2 e)
    where
      by : OneAim place (number + 1) a ⊎ OneSkip 0 a → OneAim at which a ⊎ OneSkip 0 a
      by (inl x) =
          inl (
            x.0,
            x.1,
            x.2,
            x.3,
            from_on at which place number x.0 x.1 are.0
                (from_on place number place (number + 1) x.0 x.1 (inr (refl, omega arith)) x.4),
            x.5,
          )
      by (inr x) = inr x
  one_jump (act.Skip place ∷ acts) at which j a are e =
      inr (one_skip (act.Skip place ∷ acts) 0 j a are e)
  one_jump (act.Drop from to ∷ acts) at which j a are e = absurd are
  one_jump (act.Fact from to slot value ∷ acts) at which j a are e = absurd are
  one_jump (act.Fold place to ∷ acts) at which j a are e = absurd are
  one_jump (act.Cut place ∷ acts) at which j a are e = absurd are

  -- ---- no place twice

  skips_apart : (acts : List Act) (low i j : ℕ) (a b : Act) → AreSkips low acts → i < j
      → slice_get acts i ≡ Some b → slice_get acts j ≡ Some a → share_place b a ≡ false
  skips_apart [] low i j a b are lt p q = absurd cc
  skips_apart (act.Skip place ∷ acts) low i zero a b are lt p q = absurd (omega (arith, lt))
  skips_apart (act.Skip place ∷ acts) low zero (suc j) a b are lt p q =
      let x = one_skip acts (place + 1) j a are.2 q in
      let same : act.Skip place ≡ b = cc in
      (λ i. share_place (sym same i) (x.1 i)) ∙ differ place x.0 (omega (arith, x.2))
  skips_apart (act.Skip place ∷ acts) low (suc i) (suc j) a b are lt p q =
      skips_apart acts (place + 1) i j a b are.2 (omega (arith, lt)) p q
  skips_apart (act.Aim place number to ∷ acts) low i j a b are lt p q = absurd are
  skips_apart (act.Drop from to ∷ acts) low i j a b are lt p q = absurd are
  skips_apart (act.Fact from to slot value ∷ acts) low i j a b are lt p q = absurd are
  skips_apart (act.Fold place to ∷ acts) low i j a b are lt p q = absurd are
  skips_apart (act.Cut place ∷ acts) low i j a b are lt p q = absurd are

  behind : (place number spot digit : ℕ) → From place (number + 1) spot digit
      → Before place number spot digit
  behind place number spot digit (inl a) = inl a
  behind place number spot digit (inr a) = inr (a.0, omega (arith, a.1))

  jumps_apart : (acts : List Act) (at which i j : ℕ) (a b : Act) → AreJumps at which acts
      → i < j → slice_get acts i ≡ Some b → slice_get acts j ≡ Some a → share_place b a ≡ false
  jumps_apart [] at which i j a b are lt p q = absurd cc
  jumps_apart (act.Aim place number to ∷ acts) at which i zero a b are lt p q =
      absurd (omega (arith, lt))
  jumps_apart (act.Aim place number to ∷ acts) at which zero (suc j) a b are lt p q =
      by (one_jump acts place (number + 1) j a are.2 q)
    where
      same : act.Aim place number to ≡ b
      same = cc

      by : OneAim place (number + 1) a ⊎ OneSkip 0 a → share_place b a ≡ false
      by (inl x) =
          (λ i. share_place (sym same i) (x.3 i))
          ∙ apart_by place number x.0 x.1 (behind place number x.0 x.1 x.4)
      by (inr x) = λ i. share_place (sym same i) (x.1 i)
  jumps_apart (act.Aim place number to ∷ acts) at which (suc i) (suc j) a b are lt p q =
      jumps_apart acts place (number + 1) i j a b are.2 (omega (arith, lt)) p q
  jumps_apart (act.Skip place ∷ acts) at which i j a b are lt p q =
      skips_apart (act.Skip place ∷ acts) 0 i j a b are lt p q
  jumps_apart (act.Drop from to ∷ acts) at which i j a b are lt p q = absurd are
  jumps_apart (act.Fact from to slot value ∷ acts) at which i j a b are lt p q = absurd are
  jumps_apart (act.Fold place to ∷ acts) at which i j a b are lt p q = absurd are
  jumps_apart (act.Cut place ∷ acts) at which i j a b are lt p q = absurd are

  -- ---- where a target leads after the aims

  no_skip_aims : (acts : List Act) (low at which t : ℕ) → AreSkips low acts
      → aim acts at which t ≡ t
  no_skip_aims [] low at which t are = refl
  no_skip_aims (act.Skip place ∷ acts) low at which t are =
      no_skip_aims acts (place + 1) at which t are.2
  no_skip_aims (act.Aim place number to ∷ acts) low at which t are = absurd are
  no_skip_aims (act.Drop from to ∷ acts) low at which t are = absurd are
  no_skip_aims (act.Fact from to slot value ∷ acts) low at which t are = absurd are
  no_skip_aims (act.Fold place to ∷ acts) low at which t are = absurd are
  no_skip_aims (act.Cut place ∷ acts) low at which t are = absurd are

  missed : (at which place number to : ℕ) (acts : List Act) (t : ℕ)
      → (at == place && which == number) ≡ false
      → aim (act.Aim place number to ∷ acts) at which t ≡ aim acts at which t
  missed at which place number to acts t e =
      ap (λ b. unwrap_or (if b then Some to else None) (aim acts at which t)) e

  -- no aim from a later target on moves it
  passed : (acts : List Act) (place number at which t : ℕ) → AreJumps place number acts
      → Before at which place number → aim acts at which t ≡ t
  passed [] place number at which t are b = refl
  passed (act.Aim spot digit to ∷ acts) place number at which t are b =
      missed at which spot digit to acts t
      (apart_by at which spot digit (reach b are.0))
      ∙ passed acts spot (digit + 1) at which t are.2 (further (reach b are.0))
    where
      reach : Before at which place number → From place number spot digit
          → Before at which spot digit
      reach (inl x) (inl y) = inl (omega (arith, x, y))
      reach (inl x) (inr y) = inl (omega (arith, x, y.0))
      reach (inr x) (inl y) = inl (omega (arith, x.0, y))
      reach (inr x) (inr y) = inr (omega (arith, x.0, y.0), omega (arith, x.1, y.1))

      further : Before at which spot digit → Before at which spot (digit + 1)
      further (inl x) = inl x
      further (inr x) = inr (x.0, omega (arith, x.1))
  passed (act.Skip spot ∷ acts) place number at which t are b =
      no_skip_aims (act.Skip spot ∷ acts) 0 at which t are
  passed (act.Drop from to ∷ acts) place number at which t are b = absurd are
  passed (act.Fact from to slot value ∷ acts) place number at which t are b = absurd are
  passed (act.Fold spot to ∷ acts) place number at which t are b = absurd are
  passed (act.Cut spot ∷ acts) place number at which t are b = absurd are

  -- one of the targets of an index
  hit : (ts : List ℕ) (at which j t : ℕ) (rest : List Act) → slice_get ts j ≡ Some t
      → AreJumps (at + 1) 0 rest
      → aim (aims_on ends at which ts ++ rest) at (which + j) t ≡ end_of ends t
  hit [] at which j t rest e are = absurd cc
  hit (u ∷ ts) at which zero t rest e are =
      let same : u ≡ t = cc in
      let z : which + 0 ≡ which = omega arith in
      ap (λ m. aim (aims_on ends at which (u ∷ ts) ++ rest) at m t) z
      ∙ by (end_of ends u == u) refl same
    where
      none_left : (number : ℕ) → which < number → (xs : List ℕ)
          → aim (aims_on ends at number xs ++ rest) at which t ≡ t
      none_left number lt [] =
          passed rest (at + 1) 0 at which t are (inl (omega arith))
      none_left number lt (x ∷ xs) =
          choose (end_of ends x == x) (none_left (suc number) (omega (arith, lt)) xs)
        where
          choose : (b : Bool) → aim (aims_on ends at (suc number) xs ++ rest) at which t ≡ t
              → aim ((if b then aims_on ends at (suc number) xs
              else act.Aim at number (end_of ends x) ∷ aims_on ends at (suc number) xs) ++ rest)
              at which t ≡ t
          choose true more = more
          choose false more =
              missed at which at number (end_of ends x) (aims_on ends at (suc number) xs ++ rest) t
              (and_none (at == at) (which == number) (differ which number lt)) ∙ more

      by : (b : Bool) → (end_of ends u == u) ≡ b → u ≡ t
          → aim ((if b then aims_on ends at (suc which) ts
          else act.Aim at which (end_of ends u) ∷ aims_on ends at (suc which) ts) ++ rest)
          at which t ≡ end_of ends t
      by true q same =
          none_left (suc which) (omega arith) ts
          ∙ sym (numbers_same (end_of ends t) t
          (subst (λ m. (end_of ends m == m) ≡ true) same q))
      by false q same =
          ap (λ b. unwrap_or (if b then Some (end_of ends u) else None)
          (aim (aims_on ends at (suc which) ts ++ rest) at which t))
          (ap (λ b. b && which == which) (itself at) ∙ itself which)
          ∙ ap (end_of ends) same
  hit (u ∷ ts) at which (suc j) t rest e are =
      let z : suc which + j ≡ which + suc j = omega arith in
      by (end_of ends u == u)
      (ap (λ m. aim (aims_on ends at (suc which) ts ++ rest) at m t) (sym z)
      ∙ hit ts at (suc which) j t rest e are)
    where
      by : (b : Bool)
          → aim (aims_on ends at (suc which) ts ++ rest) at (which + suc j) t ≡ end_of ends t
          → aim ((if b then aims_on ends at (suc which) ts
          else act.Aim at which (end_of ends u) ∷ aims_on ends at (suc which) ts) ++ rest)
          at (which + suc j) t ≡ end_of ends t
      by true more = more
      by false more =
          missed at (which + suc j) at which (end_of ends u)
          (aims_on ends at (suc which) ts ++ rest) t
          (and_none (at == at) (which + suc j == which)
          (differ_back (which + suc j) which (omega arith))) ∙ more

  -- aims of another index
  other : (ts : List ℕ) (place number at which t : ℕ) (rest : List Act) → place < at
      → aim (aims_on ends place number ts ++ rest) at which t ≡ aim rest at which t
  other [] place number at which t rest lt = refl
  other (u ∷ ts) place number at which t rest lt =
      by (end_of ends u == u) (other ts place (suc number) at which t rest lt)
    where
      by : (b : Bool) → aim (aims_on ends place (suc number) ts ++ rest) at which t
          ≡ aim rest at which t
          → aim ((if b then aims_on ends place (suc number) ts
          else act.Aim place number (end_of ends u) ∷ aims_on ends place (suc number) ts) ++ rest)
          at which t ≡ aim rest at which t
      by true more = more
      by false more =
          missed at which place number (end_of ends u)
          (aims_on ends place (suc number) ts ++ rest) t
          (ap (λ b. b && which == number) (differ_back at place lt)) ∙ more

  aimed_all : (ins : List Ins) (k j which t : ℕ) (i : Ins) (skips : List Act) → AreRest k ins
      → AreSkips 0 skips → slice_get ins j ≡ Some i → slice_get (targets i.op) which ≡ Some t
      → aim (aims_from ends k ins ++ skips) (k + j) which t ≡ end_of ends t
  aimed_all [] k j which t i skips rest are e x = absurd cc
  aimed_all (y ∷ ins) k zero which t i skips rest are e x =
      let same : y ≡ i = cc in
      let z : k + 0 ≡ k = omega arith in
      let w : which ≡ 0 + which = omega arith in
      let s : suc k ≡ k + 1 = omega arith in
      ap (λ (xs : List Act). aim xs (k + 0) which t)
      (append_later (aims_on ends k 0 (targets y.op)) (aims_from ends (suc k) ins) skips)
      ∙ (λ i. aim (aims_on ends k 0 (targets y.op) ++ (aims_from ends (suc k) ins ++ skips)) (z i)
      (w i) t)
      ∙ hit (targets y.op) k 0 which t (aims_from ends (suc k) ins ++ skips)
      (ap (λ (q : Ins). slice_get (targets q.op) which) same ∙ x)
      (subst (λ m. AreJumps m 0 (aims_from ends (suc k) ins ++ skips)) s
      (all_aims ins (suc k) skips (rest_next k y ins rest) are))
  aimed_all (y ∷ ins) k (suc j) which t i skips rest are e x =
      let z : k + suc j ≡ suc k + j = omega arith in
      ap (λ (xs : List Act). aim xs (k + suc j) which t)
      (append_later (aims_on ends k 0 (targets y.op)) (aims_from ends (suc k) ins) skips)
      ∙ other (targets y.op) k 0 (k + suc j) which t (aims_from ends (suc k) ins ++ skips)
      (omega arith)
      ∙ ap (λ m. aim (aims_from ends (suc k) ins ++ skips) m which t) z
      ∙ aimed_all ins (suc k) j which t i skips (rest_next k y ins rest) are e x

-- ---- legal

first_of : (o : Op) (t : ℕ) → skip_target o ≡ Some t → slice_get (targets o) 0 ≡ Some t
first_of (op.Goto k) t e = e
first_of (op.IfZero c k) t e = e
first_of (op.IfNull c k) t e = e
first_of (op.IfCmp c k) t e = e
first_of (op.IfRef c k) t e = e
first_of o t e = absurd cc

module _ (code : Code) (sound : IsSound code) (ends : ℕ → Option ℕ) (tells : TellsEnds code ends)
  where
    abbrev skips : List Act
    skips = skips_from ends 0 code.ins

    abbrev acts : List Act
    acts = aims_from ends 0 code.ins ++ skips

    whole : AreRest code ends 0 code.ins
    whole j i e = let z : 0 + j ≡ j = omega arith in ap (slice_get code.ins) z ∙ e

    skips_here : AreSkips code ends 0 skips
    skips_here = skips_are code ends code.ins 0 0 (omega arith) whole

    are : AreJumps code ends 0 0 acts
    are = all_aims code ends code.ins 0 skips whole skips_here

    follow : (old : ℕ) → old < length code.ins → (end_of ends old == old) ≡ false
        → FollowsGotos code old (end_of ends old)
    follow old lt unlike = by (ends old) (tells old lt) unlike
      where
        far : (n to : ℕ) → Leads code n old to → (to == old) ≡ false → FollowsGotos code old to
        far zero to l unlike =
            let x : true ≡ false = sym (itself old) ∙ ap (λ m. m == old) l ∙ unlike in absurd cc
        far (suc n) to l unlike = (n, l)

        by : (o : Option ℕ) → EndIs code old o → (unwrap_or o old == old) ≡ false
            → FollowsGotos code old (unwrap_or o old)
        by None is unlike = let x : true ≡ false = sym (itself old) ∙ unlike in absurd cc
        by (Some to) is unlike = far is.0.0 to is.0.1 unlike

    right : (k : ℕ) (a : Act) → slice_get acts k ≡ Some a → IsLegalJump acts code a
    right k a e = by (one_jump code ends acts 0 0 k a are e)
      where
        by : OneAim code ends 0 0 a ⊎ OneSkip code ends 0 a → IsLegalJump acts code a
        by (inl x) =
            let i = x.5.0 in
            let old = x.5.1 in
            let lt =
            all_at (λ t. t < length code.ins) (targets i.op) x.1 old (sound.jump x.0 i x.5.2) x.5.3 in
            subst (IsLegalJump acts code) (sym x.3)
            (i, old, x.5.2, x.5.3, subst (FollowsGotos code old) (sym x.5.4) (follow old lt x.5.5))
        by (inr x) =
            let i = x.3.0 in
            let to = x.3.1 in
            let z : 0 + x.0 ≡ x.0 = omega arith in
            subst (IsLegalJump acts code) (sym x.1) (
              i,
              to,
              x.3.2,
              x.3.3,
              ap (λ m. aim acts m 0 to) (sym z)
                  ∙ aimed_all code ends code.ins 0 x.0 0 to i skips whole skips_here x.3.2
                  (first_of i.op to x.3.3) ∙ x.3.4,
            )

    all_right : AreLegalJumps acts code
    all_right = all_from (IsLegalJump acts code) acts right

    last_index : (n : ℕ) → 0 < n → (m : ℕ) × (m + 1 ≡ n)
    last_index zero lt = absurd (omega (arith, lt))
    last_index (suc m) lt = (m, omega arith)

    -- the last instruction stays
    last_stays : (at : ℕ) → at < length code.ins
        → ((k : ℕ) → at ≤ k → k < length code.ins → stays acts code k ≡ false) → ⊥
    last_stays at lt past =
        let m = last_index (length code.ins) sound.some in
        let kept = not_skipped acts code sound all_right m.0 m.1 in
        let gone = past m.0 (omega (arith, lt, m.1)) (omega (arith, m.1)) in
        let no : true ≡ false =
        sym (ap (λ b. not (b && of_ins is_goto code m.0)) kept) ∙ gone in
        cc

    keeps : (a : Act) → IsLegalJump acts code a → KeepsLast pass.Jumps acts code a
    keeps (act.Skip place) r at d l aimed past =
        let same = numbers_same at place d in
        last_stays at (subst (λ m. m < length code.ins) (sym same) (get_below code.ins place r.0 r.2))
        past
    keeps (act.Aim place number to) r at d l aimed past = let no : false ≡ true = d in cc
    keeps (act.Drop from to) r at d l aimed past = absurd r
    keeps (act.Fact from to slot value) r at d l aimed past = absurd r
    keeps (act.Fold place to) r at d l aimed past = absurd r
    keeps (act.Cut place) r at d l aimed past = absurd r

    pub jumps_legal : AreLegal pass.Jumps acts code
    jumps_legal k a e =
        let r = right k a e in
        (r, λ j b lt q. jumps_apart code ends acts 0 0 j k a b are lt q e, keeps a r)
