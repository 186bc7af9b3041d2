-- A list that is made by going over another one.
use Rattle.std.proofs.Common.{◌≡◌, ◌+◌, ◌∙◌, ℕ, List, [], ◌∷◌, ◌++◌, None, Some, drop, map, slice_get, sym, ap}
use Rattle.std.proofs.Common.{append_assoc}
use Rattle.std.proofs.lemmas.List.{append-nil}
use Rattle.pair_clauses.proofs.Zipped.{drop_none, drop_some}

module _ {A B : Type 0} (f : A → B) (xs : List A) (i : ℕ) (due : List B) where
  -- one more
  pub mapped_on : (x : A) (old new : List B) (y : B) → slice_get xs i ≡ Some x → y ≡ f x → new ≡ old ++ y ∷ []
      → old ++ map f (drop i xs) ≡ due → new ++ map f (drop (i + 1) xs) ≡ due
  mapped_on x old new y is same put before =
      ap (λ (ys : List B). ys ++ map f (drop (i + 1) xs)) put
      ∙ append_assoc old (y ∷ []) (map f (drop (i + 1) xs))
      ∙ ap (λ (z : B). old ++ z ∷ map f (drop (i + 1) xs)) same
      ∙ ap (λ (l : List A). old ++ map f l) (sym (drop_some xs i x is))
      ∙ before

  -- all of them
  pub mapped_all : (made : List B) → slice_get xs i ≡ None → made ++ map f (drop i xs) ≡ due → made ≡ due
  mapped_all made none before =
      sym (ap (λ (l : List A). made ++ map f l) (drop_none xs i none) ∙ append-nil made) ∙ before
