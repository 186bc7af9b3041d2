-- What skips leave.
use Rattle.std.proofs.Common.{ℕ, zero, suc, ◌+◌, ◌<◌, ◌≤◌, List, [], ◌∷◌, Option, Some, None, Bool}
use Rattle.std.proofs.Common.{true, false, ◌≡◌, ◌⊎◌, inl, inr, refl, sym, ap, ◌∙◌, subst, arith}
use Rattle.std.specs.Prelude.{length, nat_le, not, slice_get, ◌&&◌}
use Rattle.std.specs.Option.{option_map_or}
use Rattle.std.proofs.lemmas.Bool.Decides.{leb_tells}
use Rattle.class_model.specs.declared.code.Code.{Code}
use Rattle.class_model.specs.declared.code.Ins.{Ins}
use Rattle.code_edit.specs.declared.act.Act.{Act}
use Rattle.code_edit.specs.Jumps.{is_goto, is_skipped, stays}
use Rattle.code_edit.specs.Rewriting.{map_from}
use Rattle.edit_premises.proofs.Places.{get_below}
use Rattle.edit_tables.specs.Marks.{none, with_skips}
use Rattle.edit_tables.specs.Places.{lives_in}
use Rattle.edit_tables.specs.Unskipped.{is_unskipped, unskipped}
use Rattle.edit_tables.proofs.Marking.{skips_marked}

-- ---- lists

pub outside : (xs : List Bool) (at : ℕ) → length xs ≤ at → lives_in xs at ≡ true
outside [] at le = refl
outside (x ∷ xs) zero le = absurd (omega (arith, le))
outside (x ∷ xs) (suc at) le = outside xs at (omega (arith, le))

pub none_at : {A : Type 0} (xs : List A) (at : ℕ) → length xs ≤ at → slice_get xs at ≡ None
none_at [] at le = refl
none_at (x ∷ xs) zero le = absurd (omega (arith, le))
none_at (x ∷ xs) (suc at) le = none_at xs at (omega (arith, le))

pub from_long : {A B : Type 0} (f : ℕ → A → B) (k : ℕ) (xs : List A)
    → length (map_from f k xs) ≡ length xs
from_long f k [] = refl
from_long f k (x ∷ xs) = ap suc (from_long f (suc k) xs)

-- what a list that goes by the index says of one
pub told_at : {A : Type 0} (f : ℕ → A → Bool) (k : ℕ) (xs : List A) (at : ℕ) (x : A)
    → slice_get xs at ≡ Some x
    → lives_in (map_from f k xs) at ≡ f (k + at) x
told_at f k [] at x e = absurd cc
told_at f k (y ∷ ys) zero x e =
    let same : y ≡ x = cc in let z : k ≡ k + 0 = omega arith in ap (f k) same ∙ ap (λ q. f q x) z
told_at f k (y ∷ ys) (suc at) x e =
    let n : suc k + at ≡ k + suc at = omega arith in
    told_at f (suc k) ys at x e ∙ ap (λ q. f q x) n

pub and_false : (a : Bool) → (a && false) ≡ false
and_false true = refl
and_false false = refl

-- ---- jumps

module _ (acts : List Act) (code : Code) where
  abbrev pub skip_list : List Bool
  skip_list = with_skips acts (none (length code.ins))

  abbrev pub going : List Bool
  going = unskipped skip_list code

  pub going_long : length going ≡ length code.ins
  going_long = from_long (is_unskipped skip_list) 0 code.ins

  pub going_where : (at : ℕ) → lives_in going at ≡ stays acts code at
  going_where at = by (slice_get code.ins at) refl (leb_tells (suc at) (length code.ins))
    where
      by : (o : Option Ins) → slice_get code.ins at ≡ o
          → ((nat_le (suc at) (length code.ins) ≡ true) × (suc at ≤ length code.ins))
          ⊎ ((nat_le (suc at) (length code.ins) ≡ false) × (length code.ins < suc at))
          → lives_in going at ≡ stays acts code at
      by (Some i) e p =
          let lt : at < length code.ins = get_below code.ins at i e in
          let z : 0 + at ≡ at = omega arith in
          told_at (is_unskipped skip_list) 0 code.ins at i e
          ∙ ap (λ q. is_unskipped skip_list q i) z
          ∙ ap (λ b. not (b && is_goto i.op)) (skips_marked acts (length code.ins) at lt)
          ∙ ap (λ o. not (is_skipped acts at && option_map_or (λ (i : Ins). is_goto i.op) o false))
          (sym e)
      by None e (inl p) = absurd (missing code.ins at (omega (arith, p.1)) e)
        where
          missing : (xs : List Ins) (k : ℕ) → k < length xs → slice_get xs k ≡ None → ⊥
          missing [] k lt q = omega (arith, lt)
          missing (x ∷ xs) zero lt q = absurd cc
          missing (x ∷ xs) (suc k) lt q = missing xs k (omega (arith, lt)) q
      by None e (inr p) =
          let le : length code.ins ≤ at = omega (arith, p.1) in
          outside going at (subst (λ n. n ≤ at) (sym going_long) le)
          ∙ sym
          (ap
          (λ o. not (is_skipped acts at && option_map_or (λ (i : Ins). is_goto i.op) o false)) e
          ∙ ap not (and_false (is_skipped acts at)))
