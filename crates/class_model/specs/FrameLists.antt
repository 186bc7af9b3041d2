-- The frames of a code by their numbers, and frames that are built row by row (the project's own).
use Rattle.std.specs.Prelude.{ℕ, List, [], get_or}
use Rattle.class_model.specs.declared.frame.VType.{VType}
use Rattle.class_model.specs.declared.frame.FrameAt.{FrameAt}

-- what stands behind the last frame: one without types
abbrev pub no_frame : FrameAt
no_frame = record { index = 0; frame = record { locals = []; stack = [] } }

-- the frame of a number, counted from 0
abbrev pub frame_numbered : List FrameAt → ℕ → FrameAt
frame_numbered frames number = get_or frames number no_frame

-- the frames of the rows so far, and the locals of the last row with the Tops at their end (JVMS 4.7.4)
pub record Built : Type 0 where
  pub frames : List FrameAt
  pub locals : List VType
