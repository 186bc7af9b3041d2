-- Reading bytes one by one (the project's own: texts are read byte by byte).
use Rattle.std.specs.Prelude.{ℕ, ◌+◌, List, [], ◌∷◌, Option, Some, None, Result, Ok, Err}

-- a value that is there, or a fault at the place
abbrev pub or_fault : {A : Type 0} → ℕ → Option A → Result A ℕ
or_fault at (Some x) = Ok x
or_fault at None = Err at

-- more from a state on, or a fault at the place where there is no state
abbrev pub walk_from : {S V : Type 0} → ℕ → Option S → (S → Result V ℕ) → Result V ℕ
walk_from at (Some s) more = more s
walk_from at None more = Err at

-- what the bytes give from a state on, or the place of the first byte that leads nowhere
unfoldable pub walk : {S V : Type 0} → (S → ℕ → Option S) → (S → Option V) → S → ℕ → List ℕ → Result V ℕ
walk step end s at [] = or_fault at (end s)
walk step end s at (b ∷ bs) = walk_from at (step s b) (λ t. walk step end t (at + 1) bs)
