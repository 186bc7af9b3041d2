-- A search finds one place at most.
use Rattle.std.proofs.Common.{◌≡◌, List, [], ◌∷◌, Option, Some, None, inl, inr, refl, sym, ap, ◌∙◌}
use Rattle.pair_clauses.specs.Finding.{FindsUnless, FirstOf, FirstUnlike, IsOne, Then}
use Rattle.pair_clauses.specs.declared.place.Place.{Place}

pub one_equal : (due : Option Place) → IsOne (λ found. found ≡ due)
one_equal due p q x y = x ∙ sym y

pub one_then : (Finds Next : Option Place → Type 0) → IsOne Finds → IsOne Next → IsOne (Then Finds Next)
one_then Finds Next f g None None x y = refl
one_then Finds Next f g None (Some q) x (inl y) = let e = f None (Some q) x.0 y in absurd cc
one_then Finds Next f g None (Some q) x (inr y) = g None (Some q) x.1 y.1
one_then Finds Next f g (Some p) None (inl x) y = let e = f (Some p) None x y.0 in absurd cc
one_then Finds Next f g (Some p) None (inr x) y = g (Some p) None x.1 y.1
one_then Finds Next f g (Some p) (Some q) (inl x) (inl y) = f (Some p) (Some q) x y
one_then Finds Next f g (Some p) (Some q) (inl x) (inr y) = let e = f (Some p) None x y.0 in absurd cc
one_then Finds Next f g (Some p) (Some q) (inr x) (inl y) = let e = f None (Some q) x.0 y in absurd cc
one_then Finds Next f g (Some p) (Some q) (inr x) (inr y) = g (Some p) (Some q) x.1 y.1

pub one_unless : (Fact : Type 0) (place : Place) → IsOne (FindsUnless Fact place)
one_unless Fact place None None x y = refl
one_unless Fact place None (Some q) x y = absurd (y.0 x)
one_unless Fact place (Some p) None x y = absurd (x.0 y)
one_unless Fact place (Some p) (Some q) x y = ap (λ (r : Place). Some r) (x.1 ∙ sym y.1)

pub one_first : {A : Type 0} (Finds : A → Option Place → Type 0) → ((x : A) → IsOne (Finds x)) → (xs : List A)
    → IsOne (FirstOf Finds xs)
one_first Finds each [] = one_equal None
one_first Finds each (x ∷ xs) = one_then (Finds x) (FirstOf Finds xs) (each x) (one_first Finds each xs)

pub one_unlike : {A B : Type 0} (Alike : A → B → Type 0) (place : A → Place) (xs : List A) (ys : List B)
    → IsOne (FirstUnlike Alike place xs ys)
one_unlike Alike place [] ys = one_equal None
one_unlike Alike place (x ∷ xs) [] = one_equal (Some (place x))
one_unlike Alike place (x ∷ xs) (y ∷ ys) = one_then (FindsUnless (Alike x y) (place x)) (FirstUnlike Alike place xs ys)
    (one_unless (Alike x y) (place x)) (one_unlike Alike place xs ys)
