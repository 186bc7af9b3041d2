-- How the first place is found: what is looked at comes in an order, and the first place at fault counts (the project's
-- own). A search is told by the places that it may find: one, or none.
use Rattle.std.specs.Prelude.{◌≡◌, ◌⊎◌, List, [], ◌∷◌, Option, Some, None}
use Rattle.std.specs.Option.{option_or}
use Rattle.pair_clauses.specs.declared.place.Place.{Place}

-- the first place that is at fault among these
abbrev pub first_place : {A : Type 0} → (A → Option Place) → List A → Option Place
first_place fault [] = None
first_place fault (x ∷ xs) = option_or (fault x) (first_place fault xs)

-- what one search finds, or where that finds nothing what the next one does
abbrev pub Then : (Option Place → Type 0) → (Option Place → Type 0) → Option Place → Type 0
Then Finds Next None = Finds None × Next None
Then Finds Next (Some place) = Finds (Some place) ⊎ (Finds None × Next (Some place))

-- the first that a search finds of these
abbrev pub FirstOf : {A : Type 0} → (A → Option Place → Type 0) → List A → Option Place → Type 0
FirstOf Finds [] found = found ≡ None
FirstOf Finds (x ∷ xs) found = Then (Finds x) (FirstOf Finds xs) found

-- the place, unless a fact holds
abbrev pub FindsUnless : Type 0 → Place → Option Place → Type 0
FindsUnless Fact place None = Fact
FindsUnless Fact place (Some found) = (Fact → ⊥) × (found ≡ place)

-- the first of these to which none corresponds, or one that isn't alike
abbrev pub FirstUnlike : {A B : Type 0} → (A → B → Type 0) → (A → Place) → List A → List B → Option Place → Type 0
FirstUnlike Alike place [] ys found = found ≡ None
FirstUnlike Alike place (x ∷ xs) [] found = found ≡ Some (place x)
FirstUnlike Alike place (x ∷ xs) (y ∷ ys) found =
    Then (FindsUnless (Alike x y) (place x)) (FirstUnlike Alike place xs ys) found

-- a search finds one place at most, or nothing
abbrev pub IsOne : (Option Place → Type 0) → Type 0
IsOne Finds = (found other : Option Place) → Finds found → Finds other → found ≡ other
