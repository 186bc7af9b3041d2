-- What the table of folds tells is what the acts say.
use Rattle.std.proofs.Common.{ℕ, zero, suc, ◌+◌, ◌<◌, ◌≤◌, List, [], ◌∷◌, Option, Some, None, Bool}
use Rattle.std.proofs.Common.{true, false, ◌≡◌, ◌≢◌, ◌⊎◌, inl, inr, refl, sym, ap, ◌∙◌, subst, arith}
use Rattle.std.specs.Prelude.{length, nat_eq, nat_le, nat_lt, not, slice_get, slice_set}
use Rattle.std.specs.Prelude.{◌||◌, ◌==◌, if◌then◌else◌}
use Rattle.std.specs.Option.{option_or}
use Rattle.std.proofs.lemmas.Bool.Decides.{eqb_tells, leb_tells}
use Rattle.class_model.specs.declared.code.Code.{Code}
use Rattle.class_model.specs.declared.code.Ins.{Ins}
use Rattle.code_edit.specs.declared.act.Act.{Act}
use Rattle.code_edit.specs.declared.act.Act.TheVariants as act
use Rattle.code_edit.specs.Constants.{count, count_by, fold_to, goes, is_fold, is_next, is_operand}
use Rattle.code_edit.specs.Constants.{is_two}
use Rattle.code_edit.specs.Deciding.{NoOperand}
use Rattle.edit_tables.specs.Places.{lives_in}
use Rattle.edit_tables.proofs.Staying.{from_long, none_at, told_at}
use Rattle.const_tables.specs.Folding.{count_in, fold_in, folds_of, is_operand_in, is_unfolded}
use Rattle.const_tables.specs.Folding.{no_folds, put_fold, unfolded, with_folds}

-- ---- one fold

set_long : (fs : List (Option ℕ)) (x : ℕ) (f : Option ℕ) → length (slice_set fs x f) ≡ length fs
set_long [] x f = refl
set_long (g ∷ fs) zero f = refl
set_long (g ∷ fs) (suc x) f = ap suc (set_long fs x f)

put_long : (x to : ℕ) (fs : List (Option ℕ)) → length (put_fold x to fs) ≡ length fs
put_long x to fs = by (nat_lt x (length fs))
  where
    by : (b : Bool)
        → length (if b then slice_set fs x (option_or (fold_in fs x) (Some to)) else fs)
        ≡ length fs
    by true = set_long fs x (option_or (fold_in fs x) (Some to))
    by false = refl

or_none : (f : Option ℕ) → f ≡ option_or f None
or_none None = refl
or_none (Some x) = refl

or_or : (f g h : Option ℕ) → option_or (option_or f g) h ≡ option_or f (option_or g h)
or_or None g h = refl
or_or (Some x) g h = refl

-- what an act says of an index
abbrev fold_by : ℕ → ℕ → ℕ → Option ℕ
fold_by x to at = if at == x then Some to else None

set_tells : (fs : List (Option ℕ)) (x at : ℕ) (f : Option ℕ) → x < length fs
    → fold_in (slice_set fs x f) at ≡ (if at == x then f else fold_in fs at)
set_tells fs x at f lt = by (eqb_tells at x)
  where
    same : (fs : List (Option ℕ)) (x : ℕ) → x < length fs → fold_in (slice_set fs x f) x ≡ f
    same [] x lt = absurd (omega (arith, lt))
    same (g ∷ fs) zero lt = refl
    same (g ∷ fs) (suc x) lt = same fs x (omega (arith, lt))

    other : (fs : List (Option ℕ)) (x at : ℕ) → at ≢ x
        → fold_in (slice_set fs x f) at ≡ fold_in fs at
    other [] x at n = refl
    other (g ∷ fs) zero zero n = absurd (n refl)
    other (g ∷ fs) zero (suc at) n = refl
    other (g ∷ fs) (suc x) zero n = refl
    other (g ∷ fs) (suc x) (suc at) n = other fs x at (λ e. n (ap suc e))

    by : ((nat_eq at x ≡ true) × (at ≡ x)) ⊎ ((nat_eq at x ≡ false) × (at ≢ x))
        → fold_in (slice_set fs x f) at ≡ (if nat_eq at x then f else fold_in fs at)
    by (inl q) =
        ap (fold_in (slice_set fs x f)) q.1 ∙ same fs x lt
        ∙ ap (λ b. if b then f else fold_in fs at) (sym q.0)
    by (inr q) = other fs x at q.1 ∙ ap (λ b. if b then f else fold_in fs at) (sym q.0)

put_tells : (x to at : ℕ) (fs : List (Option ℕ)) → at < length fs
    → fold_in (put_fold x to fs) at ≡ option_or (fold_in fs at) (fold_by x to at)
put_tells x to at fs lt = by (leb_tells (suc x) (length fs))
  where
    here : (b : Bool) → (b ≡ true → at ≡ x)
        → (if b then option_or (fold_in fs x) (Some to) else fold_in fs at)
        ≡ option_or (fold_in fs at) (if b then Some to else None)
    here true e = ap (λ k. option_or (fold_in fs k) (Some to)) (sym (e refl))
    here false e = or_none (fold_in fs at)

    is : nat_eq at x ≡ true → at ≡ x
    is e = of (eqb_tells at x)
      where
        of : ((nat_eq at x ≡ true) × (at ≡ x)) ⊎ ((nat_eq at x ≡ false) × (at ≢ x)) → at ≡ x
        of (inl q) = q.1
        of (inr q) = absurd (let no : true ≡ false = sym e ∙ q.0 in cc)

    apart : length fs < suc x → nat_eq at x ≡ false
    apart far = of (eqb_tells at x)
      where
        of : ((nat_eq at x ≡ true) × (at ≡ x)) ⊎ ((nat_eq at x ≡ false) × (at ≢ x))
            → nat_eq at x ≡ false
        of (inl q) = absurd (omega (arith, far, lt, q.1))
        of (inr q) = q.0

    by : ((nat_le (suc x) (length fs) ≡ true) × (suc x ≤ length fs))
        ⊎ ((nat_le (suc x) (length fs) ≡ false) × (length fs < suc x))
        → fold_in (put_fold x to fs) at ≡ option_or (fold_in fs at) (fold_by x to at)
    by (inl q) =
        ap (λ b. fold_in
        (if b then slice_set fs x (option_or (fold_in fs x) (Some to)) else fs) at) q.0
        ∙ set_tells fs x at (option_or (fold_in fs x) (Some to)) (omega (arith, q.1))
        ∙ here (nat_eq at x) is
    by (inr q) =
        ap (λ b. fold_in
        (if b then slice_set fs x (option_or (fold_in fs x) (Some to)) else fs) at) q.0
        ∙ or_none (fold_in fs at)
        ∙ ap (λ b. option_or (fold_in fs at) (if b then Some to else None)) (sym (apart q.1))

-- ---- the folds of acts

with_tells : (acts : List Act) (fs : List (Option ℕ)) (at : ℕ) → at < length fs
    → fold_in (with_folds acts fs) at ≡ option_or (fold_in fs at) (fold_to acts at)
with_tells [] fs at lt = or_none (fold_in fs at)
with_tells (act.Fold x to ∷ acts) fs at lt =
    with_tells acts (put_fold x to fs) at (subst (λ n. at < n) (sym (put_long x to fs)) lt)
    ∙ ap (λ f. option_or f (fold_to acts at)) (put_tells x to at fs lt)
    ∙ or_or (fold_in fs at) (fold_by x to at) (fold_to acts at)
    ∙ ap (option_or (fold_in fs at)) (by (at == x))
  where
    by : (b : Bool) → option_or (if b then Some to else None) (fold_to acts at)
        ≡ (if b then Some to else fold_to acts at)
    by true = refl
    by false = refl
with_tells (act.Drop from to ∷ acts) fs at lt = with_tells acts fs at lt
with_tells (act.Fact from to slot value ∷ acts) fs at lt = with_tells acts fs at lt
with_tells (act.Cut x ∷ acts) fs at lt = with_tells acts fs at lt
with_tells (act.Aim x which to ∷ acts) fs at lt = with_tells acts fs at lt
with_tells (act.Skip x ∷ acts) fs at lt = with_tells acts fs at lt

none_long : (n : ℕ) → length (no_folds n) ≡ n
none_long zero = refl
none_long (suc n) = ap suc (none_long n)

none_in : (n at : ℕ) → fold_in (no_folds n) at ≡ None
none_in zero at = refl
none_in (suc n) zero = refl
none_in (suc n) (suc at) = none_in n at

pub folds_tell : (acts : List Act) (count at : ℕ) → at < count
    → fold_in (folds_of acts count) at ≡ fold_to acts at
folds_tell acts count at lt =
    with_tells acts (no_folds count) at (subst (λ n. at < n) (sym (none_long count)) lt)
    ∙ ap (λ f. option_or f (fold_to acts at)) (none_in count at)

-- ---- what they leave

module _ (acts : List Act) (code : Code) where
  abbrev pub fold_list : List (Option ℕ)
  fold_list = folds_of acts (length code.ins)

  abbrev pub unfolded_list : List Bool
  unfolded_list = unfolded fold_list code

  no_count : (f : Option ℕ) → count_by f None ≡ NoOperand
  no_count None = refl
  no_count (Some to) = refl

  count_tells : (at : ℕ) → count_in fold_list code at ≡ count acts code at
  count_tells at = by (leb_tells (suc at) (length code.ins))
    where
      by : ((nat_le (suc at) (length code.ins) ≡ true) × (suc at ≤ length code.ins))
          ⊎ ((nat_le (suc at) (length code.ins) ≡ false) × (length code.ins < suc at))
          → count_in fold_list code at ≡ count acts code at
      by (inl q) =
          ap (λ f. count_by f (slice_get code.ins at))
          (folds_tell acts (length code.ins) at (omega (arith, q.1)))
      by (inr q) =
          let none = none_at code.ins at (omega (arith, q.1)) in
          ap (count_by (fold_in fold_list at)) none ∙ no_count (fold_in fold_list at)
          ∙ sym (ap (count_by (fold_to acts at)) none ∙ no_count (fold_to acts at))

  pub operand_tells : (at : ℕ) → is_operand_in fold_list code at ≡ is_operand acts code at
  operand_tells at =
      λ i. is_fold (count_tells (at + 1) i) || is_two (count_tells (at + 1 + 1) i)

  unfolded_tells : (at : ℕ) → at < length code.ins
      → is_unfolded fold_list code at ≡ not (goes acts code at)
  unfolded_tells at lt =
      λ i. not (operand_tells at i || is_next at (folds_tell acts (length code.ins) at lt i))

  pub unfolded_long : length unfolded_list ≡ length code.ins
  unfolded_long = from_long (λ at (i : Ins). is_unfolded fold_list code at) 0 code.ins

  pub unfolded_where : (at : ℕ) → at < length code.ins
      → lives_in unfolded_list at ≡ not (goes acts code at)
  unfolded_where at lt = by (slice_get code.ins at) refl
    where
      by : (o : Option Ins) → slice_get code.ins at ≡ o
          → lives_in unfolded_list at ≡ not (goes acts code at)
      by (Some i) e =
          told_at (λ k (i : Ins). is_unfolded fold_list code k) 0 code.ins at i e
          ∙ (let z : 0 + at ≡ at = omega arith in ap (is_unfolded fold_list code) z)
          ∙ unfolded_tells at lt
      by None e = absurd (missing code.ins at lt e)
        where
          missing : (xs : List Ins) (k : ℕ) → k < length xs → slice_get xs k ≡ None → ⊥
          missing [] k lt q = omega (arith, lt)
          missing (x ∷ xs) zero lt q = absurd cc
          missing (x ∷ xs) (suc k) lt q = missing xs k (omega (arith, lt)) q

  -- behind the code no operand goes
  pub no_operand : (at : ℕ) → length code.ins ≤ at → is_operand acts code at ≡ false
  no_operand at le =
      ap (λ c. is_fold c || is_two (count acts code (at + 1 + 1))) (past (at + 1) (omega (arith, le)))
      ∙ ap is_two (past (at + 1 + 1) (omega (arith, le)))
    where
      past : (k : ℕ) → length code.ins ≤ k → count acts code k ≡ NoOperand
      past k le = ap (count_by (fold_to acts k)) (none_at code.ins k le) ∙ no_count (fold_to acts k)
