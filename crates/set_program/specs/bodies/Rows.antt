-- Rows at places (only the proof of SetProgram needs it).
use Rattle.std.specs.Prelude.{◌≡◌, ◌⊎◌, ℕ, List, Option, Some, IfSome, slice_set}
use Rattle.std.specs.List.{All}

-- each row that stands at a place is so
abbrev pub AllHold : {T : Type 0} → (T → Type 0) → List (Option T) → Type 0
AllHold P rows = All (λ row. IfSome row P) rows

-- the row was put at a place, or nowhere
abbrev pub PutsRow : {T : Type 0} → T → (before after : List (Option T)) → Type 0
PutsRow row before after = (after ≡ before) ⊎ ((place : ℕ) × (after ≡ slice_set before place (Some row)))
