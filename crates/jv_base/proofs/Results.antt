-- Results that are a value, and results that are a fault.
use Rattle.std.proofs.Common.{◌≡◌, Result, Ok, Err, refl}
use Rattle.jv_base.specs.Outcome.{◌>>=◌}

pub same_ok : {V X : Type 0} (x y : V) → (let R : Result V X = Ok x in R) ≡ Ok y → x ≡ y
same_ok x y h = cc

pub same_fault : {V X : Type 0} (x y : X) → (let R : Result V X = Err x in R) ≡ Err y → x ≡ y
same_fault x y h = cc

pub then_ok : {A B X : Type 0} (r : Result A X) (f : A → Result B X) (y : B) → (r >>= f) ≡ Ok y
    → (x : A) × (r ≡ Ok x) × (f x ≡ Ok y)
then_ok (Ok x) f y h = (x, refl, h)
then_ok (Err e) f y h = absurd cc
