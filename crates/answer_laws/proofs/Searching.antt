-- Each search finds a place, or nothing: what it looks at comes in an order, and each fact is settled.
use Rattle.std.proofs.Common.{◌≡◌, ℕ, zero, suc, inl, inr, List, [], ◌∷◌, Option, Some, None, slice_get, refl}
use Rattle.pair_clauses.specs.Finding.{FindsUnless, FirstOf, FirstUnlike, Then}
use Rattle.pair_clauses.specs.declared.place.Place.{Place}
use Rattle.answer_laws.proofs.Deciding.{Settled}

-- a search finds something, or nothing
abbrev pub Searches : (Option Place → Type 0) → Type 0
Searches Finds = (found : Option Place) × Finds found

pub search_then : (Finds Next : Option Place → Type 0) → Searches Finds → Searches Next → Searches (Then Finds Next)
search_then Finds Next (None, f) (None, n) = (None, (f, n))
search_then Finds Next (None, f) (Some place, n) = (Some place, inr (f, n))
search_then Finds Next (Some place, f) next = (Some place, inl f)

pub search_unless : (Fact : Type 0) (place : Place) → Settled Fact → Searches (FindsUnless Fact place)
search_unless Fact place (inl fact) = (None, fact)
search_unless Fact place (inr never) = (Some place, (never, refl))

-- of each element of a list
pub search_first : {A : Type 0} (Finds : A → Option Place → Type 0) (xs : List A)
    → ((k : ℕ) (x : A) → slice_get xs k ≡ Some x → Searches (Finds x)) → Searches (FirstOf Finds xs)
search_first Finds [] each = (None, refl)
search_first Finds (x ∷ xs) each =
    search_then (Finds x) (FirstOf Finds xs) (each zero x refl) (search_first Finds xs (λ k y at. each (suc k) y at))

pub search_unlike : {A B : Type 0} (Alike : A → B → Type 0) (place : A → Place)
    → ((x : A) (y : B) → Settled (Alike x y)) → (xs : List A) (ys : List B) → Searches (FirstUnlike Alike place xs ys)
search_unlike Alike place settled [] ys = (None, refl)
search_unlike Alike place settled (x ∷ xs) [] = (Some (place x), refl)
search_unlike Alike place settled (x ∷ xs) (y ∷ ys) =
    search_then (FindsUnless (Alike x y) (place x)) (FirstUnlike Alike place xs ys)
    (search_unless (Alike x y) (place x) (settled x y)) (search_unlike Alike place settled xs ys)
