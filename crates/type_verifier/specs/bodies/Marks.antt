-- Tables of what is declared at instructions, and which are entered (only the proof of the walk needs it).
use Rattle.std.specs.Prelude.{◌≡◌, ◌<◌, ℕ, Bool, false, ◌||◌, List, length, Option, Some, None, slice_get}
use Rattle.std.specs.Prelude.{slice_index_or, drop, ◌==◌}
use Rattle.std.specs.List.{find}
use Rattle.std.specs.Option.{option_and_then, option_map}
use Rattle.class_model.specs.declared.code.Code.{Code}
use Rattle.class_model.specs.declared.frame.FrameAt.{FrameAt}
use Rattle.type_verifier.specs.declared.frame.TypeFrame.{TypeFrame}
use Rattle.type_verifier.specs.Environment.{is_entered}
use Rattle.type_verifier.specs.Frames.{declared_frame}

-- places that pass are marked, beside those that were
pub record Marks (old new : List Bool) (passes : ℕ → Bool) : Type 0 where
  pub long : length new ≡ length old
  pub marked : (at : ℕ) → at < length old
      → slice_index_or new at false ≡ (slice_index_or old at false || passes at)

-- each instruction has the number of the first of these frames that is declared there
pub record AreNumbers (frames : List FrameAt) (count : ℕ) (numbers : List (Option ℕ)) : Type 0 where
  pub long : length numbers ≡ count
  pub first : (at : ℕ) → at < count
      → option_and_then (slice_get frames) (slice_index_or numbers at None)
      ≡ find (λ (f : FrameAt). f.index == at) frames

-- each instruction is marked where it is entered
pub record IsEntered (code : Code) (entered : List Bool) : Type 0 where
  pub long : length entered ≡ length code.ins
  pub marked : (at : ℕ) → at < length code.ins → slice_index_or entered at false ≡ is_entered code at

-- the frame of a number among those that are declared
abbrev pub declared_numbered : Code → ℕ → Option TypeFrame
declared_numbered code number =
    option_map (λ (f : FrameAt). declared_frame code.max_locals f.frame) (slice_get code.frames number)

-- a frame that is kept is the one that is declared
abbrev pub AreKept : Code → List (Option TypeFrame) → Type 0
AreKept code kept = (number : ℕ) (f : TypeFrame) → slice_get kept number ≡ Some (Some f)
    → declared_numbered code number ≡ Some f

-- the same of what is gone over so far, and what is left
pub record MarksSoFar (old now : List Bool) (passes left : ℕ → Bool) : Type 0 where
  pub long : length now ≡ length old
  pub marked : (at : ℕ) → at < length old
      → (slice_index_or now at false || left at) ≡ (slice_index_or old at false || passes at)

-- the same of the frames from one on
pub record AreNumbersFrom (frames : List FrameAt) (from count : ℕ) (numbers : List (Option ℕ)) : Type 0 where
  pub long : length numbers ≡ count
  pub first : (at : ℕ) → at < count → option_and_then (slice_get frames) (slice_index_or numbers at None)
      ≡ find (λ (f : FrameAt). f.index == at) (drop from frames)
