-- Lists that are compared from the first element on (only the proofs of bodies need it).
use Rattle.std.specs.Prelude.{◌≡◌, ◌↔◌, ℕ, List, drop, map}

-- the lists are alike where what is left of them is
abbrev pub IsLeft : {A B : Type 0} → (A → B) → List A → List B → ℕ → Type 0
IsLeft f xs ys i = (map f (drop i xs) ≡ drop i ys) ↔ (map f xs ≡ ys)
