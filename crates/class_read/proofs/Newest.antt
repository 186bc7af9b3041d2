-- The last one first.
use Rattle.std.proofs.Common.{◌≡◌, Bool, ◌||◌, List, [], ◌∷◌, ◌++◌, refl, ap, ◌∙◌}
use Rattle.std.specs.List.{list_any}
use Rattle.std.proofs.lemmas.List.Folds.{list_any-append}
use Rattle.std.proofs.Math.Bool.{or_comm, or-false}
use Rattle.class_read.specs.bodies.Signatures.{newest_first}

-- the order does not matter for whether one passes a test
pub any_newest : {A : Type 0} (p : A → Bool) (xs : List A) → list_any p (newest_first xs) ≡ list_any p xs
any_newest p [] = refl
any_newest p (x ∷ xs) =
    list_any-append p (newest_first xs) (x ∷ []) ∙ ap (λ b. list_any p (newest_first xs) || b) (or-false (p x))
    ∙ ap (λ b. b || p x) (any_newest p xs) ∙ or_comm (list_any p xs) (p x)

-- one more is the first
pub newest_more : {A : Type 0} (xs : List A) (x : A) → newest_first (xs ++ x ∷ []) ≡ x ∷ newest_first xs
newest_more [] x = refl
newest_more (y ∷ xs) x = ap (λ zs. zs ++ y ∷ []) (newest_more xs x)
