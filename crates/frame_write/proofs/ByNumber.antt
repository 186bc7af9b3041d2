-- Frames that are written by their numbers, each behind the one before (JVMS 4.7.4).
use Rattle.std.proofs.Common.{◌≡◌, ℕ, suc, ◌+◌, ◌<◌, ◌≤◌, List, [], ◌∷◌, ◌++◌, length, drop, Option, Some}
use Rattle.std.proofs.Common.{sym, ap, ◌∙◌}
use Rattle.std.proofs.Common.{append_assoc, arith}
use Rattle.std.specs.Prelude.{slice_index}
use Rattle.std.specs.List.{flat_map}
use Rattle.std.proofs.lemmas.List.{append-nil, drop_more, drop_all}
use Rattle.class_model.specs.declared.constant.PoolConstant.{PoolConstant}
use Rattle.class_model.specs.declared.frame.VType.{VType}
use Rattle.class_model.specs.declared.frame.FrameAt.{FrameAt}
use Rattle.class_model.specs.FrameLists.{no_frame, frame_numbered}
use Rattle.class_model.specs.Frames.{stack_map_frame}
use Rattle.class_model.specs.CanonicalFrames.{Form, form_of, row, rows, delta_to, types_written, type_constants}
use Rattle.class_model.specs.CanonicalFrames.{frame_constants}
use Rattle.frame_write.specs.Forms.{locals_before}

-- the frames from a number on
abbrev pub frames_from : List FrameAt → ℕ → List FrameAt
frames_from frames number = drop number frames

next_is : (frames : List FrameAt) (number : ℕ) → number < length frames
    → frames_from frames number ≡ frame_numbered frames number ∷ frames_from frames (number + 1)
next_is frames number lt = drop_more frames number no_frame lt

behind_is : (first : List VType) (frames : List FrameAt) (number : ℕ)
    → locals_before first frames (number + 1) ≡ (frame_numbered frames number).frame.locals
behind_is first frames number = ap (locals_before first frames) (let e : number + 1 ≡ suc number = omega arith in e)

-- the form of the frame of a number
abbrev pub form_at : List VType → List FrameAt → ℕ → Form
form_at first frames number = form_of (locals_before first frames number) (frame_numbered frames number).frame.locals
    (frame_numbered frames number).frame.stack

-- ---- constants

-- the classes that the frames from a number on name
abbrev pub constants_from : List VType → List FrameAt → ℕ → List PoolConstant
constants_from first frames number = frame_constants (locals_before first frames number) (frames_from frames number)

pub constants_more : (first : List VType) (frames : List FrameAt) (number : ℕ) → number < length frames
    → constants_from first frames number
    ≡ flat_map type_constants (types_written (form_at first frames number)) ++ constants_from first frames (number + 1)
constants_more first frames number lt =
    ap (frame_constants (locals_before first frames number)) (next_is frames number lt)
    ∙ ap (λ (before : List VType). flat_map type_constants (types_written (form_at first frames number))
    ++ frame_constants before (frames_from frames (number + 1))) (sym (behind_is first frames number))

pub constants_done : (first : List VType) (frames : List FrameAt) (number : ℕ) → length frames ≤ number
    → constants_from first frames number ≡ []
constants_done first frames number le =
    ap (frame_constants (locals_before first frames number)) (drop_all number frames le)

-- ---- rows

module _ (pool : List PoolConstant) (starts : List ℕ) where
  -- the bytes of the rows from a number on, behind an offset
  abbrev pub rows_from : List VType → List FrameAt → ℕ → Option ℕ → List ℕ
  rows_from first frames number previous =
      flat_map stack_map_frame (rows pool starts (locals_before first frames number) previous
      (frames_from frames number))

  -- the row of the frame of a number
  abbrev pub row_at : List VType → List FrameAt → ℕ → Option ℕ → List ℕ
  row_at first frames number previous =
      stack_map_frame (row pool starts (delta_to pool starts previous (slice_index starts
      (frame_numbered frames number).index))
      (form_at first frames number))

  pub rows_more : (first : List VType) (frames : List FrameAt) (number : ℕ) (previous : Option ℕ)
      → number < length frames
      → rows_from first frames number previous
      ≡ row_at first frames number previous
      ++ rows_from first frames (number + 1) (Some (slice_index starts (frame_numbered frames number).index))
  rows_more first frames number previous lt =
      ap (λ (fs : List FrameAt). flat_map stack_map_frame (rows pool starts (locals_before first frames number)
      previous fs))
      (next_is frames number lt)
      ∙ ap (λ (before : List VType). row_at first frames number previous ++ flat_map stack_map_frame
      (rows pool starts before
      (Some (slice_index starts (frame_numbered frames number).index)) (frames_from frames (number + 1))))
      (sym (behind_is first frames number))

  -- one more row was written
  pub row_written : (first : List VType) (frames : List FrameAt) (number : ℕ) (previous : Option ℕ)
      (out after all : List ℕ)
      → number < length frames → after ≡ out ++ row_at first frames number previous
      → out ++ rows_from first frames number previous ≡ all
      → after ++ rows_from first frames (number + 1) (Some (slice_index starts (frame_numbered frames number).index))
      ≡ all
  row_written first frames number previous out after all lt is so_far =
      let later = rows_from first frames (number + 1) (Some (slice_index starts (frame_numbered frames number).index))
      in
      ap (λ (bytes : List ℕ). bytes ++ later) is
      ∙ append_assoc out (row_at first frames number previous) later
      ∙ ap (λ (bytes : List ℕ). out ++ bytes) (sym (rows_more first frames number previous lt)) ∙ so_far

  pub rows_written : (first : List VType) (frames : List FrameAt) (number : ℕ) (previous : Option ℕ) (out all : List ℕ)
      → length frames ≤ number → out ++ rows_from first frames number previous ≡ all → out ≡ all
  rows_written first frames number previous out all le so_far =
      sym (append-nil out)
      ∙ sym (ap (λ (fs : List FrameAt). out ++ flat_map stack_map_frame
      (rows pool starts (locals_before first frames number) previous fs)) (drop_all number frames le))
      ∙ so_far
