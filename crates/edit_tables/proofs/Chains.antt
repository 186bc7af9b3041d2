-- Chains of gotos are no longer than the code.
use Rattle.std.proofs.Common.{ℕ, zero, suc, ◌+◌, ◌<◌, ◌≤◌, List, [], ◌∷◌, Some, Bool, true, false}
use Rattle.std.proofs.Common.{◌≡◌, ◌≢◌, ◌⊎◌, inl, inr, refl, sym, ap, ◌∙◌, subst, arith}
use Rattle.std.specs.Prelude.{length, nat_eq, nat_lt, slice_get, slice_set, ◌||◌}
use Rattle.std.specs.Prelude.{if◌then◌else◌}
use Rattle.std.proofs.lemmas.Bool.Decides.{eqb_tells, leb_tells}
use Rattle.class_model.specs.declared.code.Code.{Code}
use Rattle.class_model.specs.declared.code.Ins.{Ins}
use Rattle.class_model.specs.declared.op.Op.TheVariants as op
use Rattle.code_edit.specs.Jumps.{Leads}
use Rattle.edit_premises.proofs.Places.{get_below}
use Rattle.edit_tables.specs.Marks.{has, none, put}
use Rattle.edit_tables.proofs.Marking.{has_none, has_outside, has_put, none_long, put_long}

-- ---- how many are marked

pub count : List Bool → ℕ
count [] = 0
count (b ∷ bs) = if b then suc (count bs) else count bs

pub count_le : (bs : List Bool) → count bs ≤ length bs
unfolding count
count_le [] = omega arith
count_le (true ∷ bs) = let h = count_le bs in omega (arith, h)
count_le (false ∷ bs) = let h = count_le bs in omega (arith, h)

count_set : (bs : List Bool) (x : ℕ) → x < length bs → has bs x ≡ false
    → count (slice_set bs x true) ≡ suc (count bs)
unfolding count
count_set [] x lt h = absurd (omega (arith, lt))
count_set (true ∷ bs) zero lt h = absurd cc
count_set (false ∷ bs) zero lt h = refl
count_set (true ∷ bs) (suc x) lt h = ap suc (count_set bs x (omega (arith, lt)) h)
count_set (false ∷ bs) (suc x) lt h = count_set bs x (omega (arith, lt)) h

pub count_put : (bs : List Bool) (x : ℕ) → x < length bs → has bs x ≡ false
    → count (put x bs) ≡ suc (count bs)
count_put bs x lt h = by (leb_tells (suc x) (length bs))
  where
    by : ((nat_lt x (length bs) ≡ true) × (suc x ≤ length bs))
        ⊎ ((nat_lt x (length bs) ≡ false) × (length bs < suc x))
        → count (if nat_lt x (length bs) then slice_set bs x true else bs) ≡ suc (count bs)
    by (inl q) =
        ap (λ b. count (if b then slice_set bs x true else bs)) q.0 ∙ count_set bs x lt h
    by (inr q) = absurd (omega (arith, q.1, lt))

pub count_none : (n : ℕ) → count (none n) ≡ 0
unfolding count
count_none zero = refl
count_none (suc n) = count_none n

-- ---- the first time that a chain comes to an index

module _ (code : Code) (to : ℕ) where
  -- a goto at an index leads to another one
  abbrev pub Goes : ℕ → ℕ → Type 0
  Goes from next = (i : Ins) × (slice_get code.ins from ≡ Some i) × (i.op ≡ op.Goto next)

  -- so many gotos and one more lead there, and none of them but the last
  abbrev pub First : ℕ → ℕ → Type 0
  First zero from = Goes from to
  First (suc m) from = (next : ℕ) × Goes from next × (nat_eq next to ≡ false) × First m next

  pub leads_first : (m from : ℕ) → Leads code (suc m) from to → (k : ℕ) × First k from
  leads_first zero from l =
      (0, (l.0, l.2, subst (λ t. l.0.op ≡ op.Goto t) l.4 l.3))
  leads_first (suc m) from l = by (eqb_tells l.1 to) (leads_first m l.1 l.4)
    where
      by : ((nat_eq l.1 to ≡ true) × (l.1 ≡ to)) ⊎ ((nat_eq l.1 to ≡ false) × (l.1 ≢ to))
          → ((k : ℕ) × First k l.1) → (k : ℕ) × First k from
      by (inl q) rest = (0, (l.0, l.2, subst (λ t. l.0.op ≡ op.Goto t) q.1 l.3))
      by (inr q) rest = (suc rest.0, (l.1, (l.0, l.2, l.3), q.0, rest.1))

  one_goto : (from a b : ℕ) → Goes from a → Goes from b → a ≡ b
  one_goto from a b x y =
      let same : Some x.0 ≡ Some y.0 = sym x.1 ∙ y.1 in
      let ins : x.0 ≡ y.0 = cc in
      let ops : op.Goto a ≡ op.Goto b = sym x.2 ∙ ap (λ (i : Ins). i.op) ins ∙ y.2 in
      cc

  same_here : nat_eq to to ≡ true
  same_here = by (eqb_tells to to)
    where
      by : ((nat_eq to to ≡ true) × (to ≡ to)) ⊎ ((nat_eq to to ≡ false) × (to ≢ to))
          → nat_eq to to ≡ true
      by (inl p) = p.0
      by (inr p) = absurd (p.1 refl)

  first_one : (a b from : ℕ) → First a from → First b from → a ≡ b
  first_one zero zero from x y = refl
  first_one zero (suc b) from x y =
      let same = one_goto from to y.0 x y.1 in
      let no : false ≡ true = sym y.2 ∙ ap (λ n. nat_eq n to) (sym same) ∙ same_here in absurd cc
  first_one (suc a) zero from x y =
      let same = one_goto from to x.0 y x.1 in
      let no : false ≡ true = sym x.2 ∙ ap (λ n. nat_eq n to) (sym same) ∙ same_here in absurd cc
  first_one (suc a) (suc b) from x y =
      let same = one_goto from x.0 y.0 x.1 y.1 in
      ap suc (first_one a b y.0 (subst (First a) same x.3) y.3)

  first_below : (m from : ℕ) → First m from → from < length code.ins
  first_below zero from x = get_below code.ins from x.0 x.1
  first_below (suc m) from x = get_below code.ins from x.1.0 x.1.1

  -- the indices that are marked have a longer way
  abbrev AreLonger : List Bool → ℕ → Type 0
  AreLonger ms m = (x : ℕ) → has ms x ≡ true → (d : ℕ) × (m < d) × First d x

  fresh : (m from : ℕ) (ms : List Bool) → First m from → AreLonger ms m → has ms from ≡ false
  fresh m from ms x longer = by (has ms from) refl
    where
      by : (b : Bool) → has ms from ≡ b → b ≡ false
      by true e =
          let y = longer from e in
          let same = first_one m y.0 from x y.2 in absurd (omega (arith, y.1, same))
      by false e = refl

  split : (a b : Bool) → (a || b) ≡ true → (a ≡ true) ⊎ (b ≡ true)
  split true b e = inl refl
  split false b e = inr e

  bound : (m from : ℕ) (ms : List Bool) → length ms ≡ length code.ins → First m from
      → AreLonger ms m → count ms + suc m ≤ length code.ins
  bound zero from ms long x longer =
      let lt : from < length ms = subst (λ n. from < n) (sym long) (first_below 0 from x) in
      let more = count_put ms from lt (fresh 0 from ms x longer) in
      let most = count_le (put from ms) in
      let same = put_long from ms in omega (arith, more, most, same, long)
  bound (suc m) from ms long x longer =
      let lt : from < length ms = subst (λ n. from < n) (sym long) (first_below (suc m) from x) in
      let more = count_put ms from lt (fresh (suc m) from ms x longer) in
      let rest = bound m x.0 (put from ms) (put_long from ms ∙ long) x.3 still in
      omega (arith, more, rest)
    where
      still : AreLonger (put from ms) m
      still y e = by (leb_tells (suc y) (length ms))
        where
          old : (has ms y ≡ true) ⊎ (nat_eq y from ≡ true) → (d : ℕ) × (m < d) × First d y
          old (inl q) = let z = longer y q in (z.0, omega (arith, z.1), z.2)
          old (inr q) = at_from (eqb_tells y from)
            where
              at_from : ((nat_eq y from ≡ true) × (y ≡ from))
                  ⊎ ((nat_eq y from ≡ false) × (y ≢ from)) → (d : ℕ) × (m < d) × First d y
              at_from (inl p) = (suc m, omega arith, subst (First (suc m)) (sym p.1) x)
              at_from (inr p) = absurd (let no : true ≡ false = sym q ∙ p.0 in cc)

          by : ((nat_lt y (length ms) ≡ true) × (suc y ≤ length ms))
              ⊎ ((nat_lt y (length ms) ≡ false) × (length ms < suc y))
              → (d : ℕ) × (m < d) × First d y
          by (inl q) = old (split _ _ (sym (has_put from ms y (omega (arith, q.1))) ∙ e))
          by (inr q) =
              let far : length (put from ms) ≤ y =
              subst (λ n. n ≤ y) (sym (put_long from ms)) (omega (arith, q.1)) in
              let no : true ≡ false = sym e ∙ has_outside (put from ms) y far in absurd cc

  -- the first time is within as many gotos as there are instructions
  pub first_bound : (m from : ℕ) → First m from → m < length code.ins
  first_bound m from x =
      let b = bound m from (none (length code.ins)) (none_long (length code.ins)) x
      (λ y e. let no : true ≡ false = sym e ∙ has_none (length code.ins) y in absurd cc) in
      omega (arith, b)
