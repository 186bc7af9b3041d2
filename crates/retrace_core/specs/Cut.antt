-- Lines in parts (the project's own: a line is taken apart from left to right).
use Rattle.std.specs.Prelude.{ℕ, ◌+◌, Bool, List, [], ◌∷◌, length, drop, nat_eq, Option, Some, None, ◌==◌}
use Rattle.std.specs.Prelude.{if◌then◌else◌}
use Rattle.std.specs.List.{position, starts_with}

-- where the first such byte stands
abbrev pub place_of : ℕ → List ℕ → Option ℕ
place_of byte text = position (λ b. b == byte) text

-- where the last such byte stands, with one byte more in front: the later one, or the byte in front
abbrev pub last_of : Bool → Option ℕ → Option ℕ
last_of here (Some n) = Some (n + 1)
last_of here None = if here then Some 0 else None

-- where the last such byte stands
unfoldable pub last_place_of : ℕ → List ℕ → Option ℕ
last_place_of byte [] = None
last_place_of byte (b ∷ bs) = last_of (b == byte) (last_place_of byte bs)

-- whether a text begins so
abbrev pub begins : List ℕ → List ℕ → Bool
begins front text = starts_with nat_eq text front

-- what stands behind a front, where the text begins so
abbrev pub behind : List ℕ → List ℕ → Option (List ℕ)
behind front text = if begins front text then Some (drop (length front) text) else None
