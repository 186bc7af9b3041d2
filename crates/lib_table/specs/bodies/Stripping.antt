-- What is left of a text behind a front (only the proofs of is_descriptor need it).
use Rattle.std.specs.Prelude.{ℕ, List, [], ◌∷◌, Option, Some, None, ◌==◌, if◌then◌else◌}

-- none where the text doesn't begin with it
abbrev pub behind : List ℕ → List ℕ → Option (List ℕ)
behind [] text = Some text
behind (x ∷ front) [] = None
behind (x ∷ front) (y ∷ text) = if y == x then behind front text else None
