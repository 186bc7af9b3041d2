-- What a text spells: a structure of the standard, which stands for a value
-- (the project's own: each structure of JVMS 4 is told so).
use Rattle.std.specs.Prelude.{◌≡◌, ℕ, ◌+◌, List, [], ◌∷◌, length}

-- the text, which begins at an offset, is the spelling of a structure that stands for the value
abbrev pub Spells : {R A : Type 0} → (R → List ℕ) → (ℕ → R → A → Type 0) → ℕ → List ℕ → A → Type 0
Spells spelled stands at text x = (raw : _) × (text ≡ spelled raw) × stands at raw x

-- each structure of a list, spelled one behind the other, stands for its value
abbrev pub AllStand : {R A : Type 0} → (R → List ℕ) → (ℕ → R → A → Type 0) → ℕ → List R → List A → Type 0
AllStand spelled stands at [] [] = Unit {0}
AllStand spelled stands at [] (y ∷ ys) = ⊥
AllStand spelled stands at (x ∷ xs) [] = ⊥
AllStand spelled stands at (x ∷ xs) (y ∷ ys) = stands at x y × AllStand spelled stands (at + length (spelled x)) xs ys

-- there are n structures, and each stands for its value
abbrev pub ManyStand : {R A : Type 0} → (R → List ℕ) → (ℕ → R → A → Type 0) → ℕ → ℕ → List R → List A → Type 0
ManyStand spelled stands n at raws xs = (length raws ≡ n) × AllStand spelled stands at raws xs
