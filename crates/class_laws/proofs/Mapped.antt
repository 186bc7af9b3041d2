-- What holds of all items of a list, and of what becomes of them.
use Rattle.std.proofs.Common.{◌<◌, List, [], ◌∷◌, length, map, Option, Some, None, subst, arith}
use Rattle.std.specs.Option.{IfSome, option_map}
use Rattle.std.specs.List.{AllByRecursion, AllPairs}
use Rattle.std.proofs.lemmas.List.{length-map, get_or-map}

module _ {A B : Type 0} (P : A → Type 0) (Q : B → Type 0) where
  pub all_mapped : (f : A → B) → ((x : A) → P x → Q (f x)) → (xs : List A) → AllByRecursion P xs
      → AllByRecursion Q (map f xs)
  all_mapped f each [] h = tt
  all_mapped f each (x ∷ xs) h = (each x h.0, all_mapped f each xs h.1)

  pub some_mapped : (f : A → B) → ((x : A) → P x → Q (f x)) → (o : Option A) → IfSome o P → IfSome (option_map f o) Q
  some_mapped f each None h = tt
  some_mapped f each (Some x) h = each x h

pub pairs_mapped : {A B : Type 0} (R : B → B → Type 0) (f : A → B) (xs : List A)
    → AllPairs (λ (x y : A). R (f x) (f y)) xs → AllPairs R (map f xs)
pairs_mapped R f [] h i j d lt within = absurd (omega (arith, within))
pairs_mapped R f (x ∷ xs) h i j d lt within =
    let in_j : j < length (x ∷ xs) = subst (λ n. j < n) (length-map (x ∷ xs) f) within in
    let in_i : i < length (x ∷ xs) = omega (arith, lt, in_j) in
    rw (get_or-map f (x ∷ xs) i x d in_i) (rw (get_or-map f (x ∷ xs) j x d in_j) (h i j x lt in_j))
