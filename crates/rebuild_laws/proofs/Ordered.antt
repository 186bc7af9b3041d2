-- Lists of which each element is related to all behind it.
use Rattle.std.proofs.Common.{ℕ, suc, ◌<◌, List, [], ◌∷◌, length, get_or, arith}
use Rattle.std.specs.Prelude.{AllPairs}
use Rattle.std.specs.List.{AllByRecursion}

-- the first is related to all others, and these among each other
pub pairs_of : {A : Type 0} (R : A → A → Type 0) (x : A) (xs : List A) → AllPairs R (x ∷ xs)
    → AllByRecursion (R x) xs × AllPairs R xs
pairs_of {A} R x xs h = (
  first xs (λ j d low. h 0 (suc j) d (omega arith) (omega (arith, low))),
  λ i j d lt within. h (suc i) (suc j) d (omega (arith, lt)) (omega (arith, within)),
)
  where
    first : (ys : List A) → ((j : ℕ) (d : A) → j < length ys → R x (get_or ys j d)) → AllByRecursion (R x) ys
    first [] k = tt
    first (y ∷ ys) k = (k 0 y (omega arith), first ys (λ j d low. k (suc j) d (omega (arith, low))))
