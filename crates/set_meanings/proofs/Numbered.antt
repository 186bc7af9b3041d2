-- What is told of a member by its number: the fields come first.
use Rattle.std.proofs.Common.{◌≡◌, ℕ, zero, suc, ◌+◌, ◌-◌, ◌<◌, ◌≤◌, List, [], ◌∷◌, ◌++◌, length, map, Option}
use Rattle.std.proofs.Common.{Some, None}
use Rattle.std.proofs.Common.{slice_get, refl, sym, ap, arith}
use Rattle.std.specs.Option.{option_and_then}
use Rattle.class_model.specs.declared.class.Constant.{Constant}
use Rattle.class_model.specs.declared.class.Field.{Field}
use Rattle.class_model.specs.declared.class.Method.{Method}
use Rattle.class_model.specs.declared.code.Code.{Code}

module _ {A B C : Type 0} (g : A → Option C) (h : B → Option C) where
  -- by its number
  abbrev told : List A → List B → ℕ → Option C
  told xs ys i = option_and_then (λ (x : Option C). x) (slice_get (map g xs ++ map h ys) i)

  none_first : ((x : A) → g x ≡ None) → (xs : List A) (ys : List B) (i : ℕ) → i < length xs → told xs ys i ≡ None
  none_first none [] ys i lt = absurd (omega (arith, lt))
  none_first none (x ∷ xs) ys zero lt = none x
  none_first none (x ∷ xs) ys (suc i) lt = none_first none xs ys i (omega (arith, lt))

  none_last : ((y : B) → h y ≡ None) → (xs : List A) (ys : List B) (i : ℕ) → length xs ≤ i → told xs ys i ≡ None
  none_last none [] [] i le = refl
  none_last none [] (y ∷ ys) zero le = none y
  none_last none [] (y ∷ ys) (suc i) le = none_last none [] ys i (omega arith)
  none_last none (x ∷ xs) ys zero le = absurd (omega (arith, le))
  none_last none (x ∷ xs) ys (suc i) le = none_last none xs ys i (omega (arith, le))

  told_last : (xs : List A) (ys : List B) (i j : ℕ) (y : B) → i ≡ length xs + j → slice_get ys j ≡ Some y
      → told xs ys i ≡ h y
  told_last [] [] i j y at is = absurd cc
  told_last [] (z ∷ ys) zero zero y at is = ap (λ o. option_and_then h o) is
  told_last [] (z ∷ ys) zero (suc j) y at is = absurd (omega (arith, at))
  told_last [] (z ∷ ys) (suc i) zero y at is = absurd (omega (arith, at))
  told_last [] (z ∷ ys) (suc i) (suc j) y at is = told_last [] ys i j y (omega (arith, at)) is
  told_last (x ∷ xs) ys zero j y at is = absurd (omega (arith, at))
  told_last (x ∷ xs) ys (suc i) j y at is = told_last xs ys i j y (omega (arith, at)) is

abbrev no_code : Field → Option Code
no_code f = None

abbrev code_of : Method → Option Code
code_of m = m.code

abbrev no_constant : Method → Option Constant
no_constant m = None

abbrev constant_of : Field → Option Constant
constant_of f = f.constant

pub no_code_told : (fields : List Field) (methods : List Method) (i : ℕ) → i < length fields
    → told no_code code_of fields methods i ≡ None
no_code_told fields methods i lt = none_first no_code code_of (λ f. refl) fields methods i lt

pub code_told : (fields : List Field) (methods : List Method) (i n : ℕ) (m : Method) → length fields ≡ n → n ≤ i
    → slice_get methods (i - n) ≡ Some m → m.code ≡ told no_code code_of fields methods i
code_told fields methods i n m long le is = sym (told_last no_code code_of fields methods i (i - n) m
    (omega (arith, long, le)) is)

pub no_constant_told : (fields : List Field) (methods : List Method) (i : ℕ) → length fields ≤ i
    → told constant_of no_constant fields methods i ≡ None
no_constant_told fields methods i le = none_last constant_of no_constant (λ m. refl) fields methods i le
