-- What a table of texts keeps (the project's own: a text that many lines have is kept once).
use Rattle.std.specs.Prelude.{◌≡◌, ℕ, Bool, true, false, List, [], ◌∷◌, ◌++◌, Option, Some, None}
use Rattle.std.specs.Borrow.{Bor}
use Rattle.std.specs.BTreeMap.{BTreeMap}
use Rattle.std.specs.List.{All}

-- each value of a tree is one that the text of its key tells
abbrev pub HasTold : {V : Type 0} → (List ℕ → V → Type 0) → BTreeMap (ℕ × Bor (List ℕ)) V → Type 0
HasTold told tree = All (λ e. told e.0.1.now e.1) tree.entries

-- so it is in each of the trees
abbrev pub KeepsTold : {V : Type 0} → (List ℕ → V → Type 0) → List (BTreeMap (ℕ × Bor (List ℕ)) V) → Type 0
KeepsTold told trees = All (HasTold told) trees

-- a list with the value that was found at its end, or there is no value
abbrev pub IsPushed : {A : Type 0} → Bool → List A → List A → Option A → Type 0
IsPushed true old new (Some x) = new ≡ old ++ x ∷ []
IsPushed true old new None = ⊥
IsPushed false old new found = found ≡ None
