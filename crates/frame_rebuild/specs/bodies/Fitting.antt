-- What stays of a code, as tables (the project's own; only the code's contracts need it).
use Rattle.std.specs.Prelude.{◌≡◌, ◌<◌, ◌≤◌, ℕ, Bool, List, length}
use Rattle.std.specs.List.{AllByRecursion}
use Rattle.class_model.specs.Frames.{words_of_types}
use Rattle.class_model.specs.declared.frame.FrameAt.{FrameAt}
use Rattle.code_edit.specs.Rewriting.{place}
use Rattle.edit_tables.specs.Marks.{has}
use Rattle.edit_tables.specs.Places.{place_in}
use Rattle.frame_rebuild.specs.declared.moves.Moves.{Moves}

-- the index stays
abbrev pub stays : Moves → ℕ → Bool
stays m at = has m.lives.items at

-- something led to the index
abbrev pub is_led : Moves → ℕ → Bool
is_led m at = has m.targets.items at

-- what was stored to the slot is gone
abbrev pub is_gone : Moves → ℕ → Bool
is_gone m slot = has m.cut.items slot

-- how many instructions stay
abbrev pub end_of : Moves → ℕ
end_of m = place (stays m) (length m.lives.items)

-- places are told up to the end
abbrev pub IsMoved : Moves → Type 0
IsMoved m =
    (at : ℕ) → at ≤ length m.lives.items → place_in m.places.items at ≡ place (stays m) at

-- a frame stands in a code of so many instructions, and its locals take 65535 words at most
pub record Fits (count : ℕ) (f : FrameAt) : Type 0 where
  pub index : f.index < count
  pub locals : words_of_types f.frame.locals ≤ 65535

-- so do all frames
abbrev pub AllFit : Moves → List FrameAt → Type 0
AllFit m frames = AllByRecursion (Fits (length m.lives.items)) frames
