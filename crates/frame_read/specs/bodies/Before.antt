-- What the reader of frames keeps between rows, as the definitions have it: parts that only the proofs of bodies need
-- (the project's own: steps of a call).
use Rattle.std.specs.Prelude.{ℕ, Bool, List, [], ◌∷◌, ◌++◌, Option, Some, option_map, Result, Ok, Err}
use Rattle.jv_base.specs.Place.{Place}
use Rattle.format_reading.specs.declared.fault.FormatFault.{FormatFault}
use Rattle.class_model.specs.declared.frame.VType.{VType}
use Rattle.class_model.specs.declared.frame.FrameAt.{FrameAt}
use Rattle.class_model.specs.FrameLists.{Built}
use Rattle.class_model.specs.ReadingFrames as reading
use Rattle.frame_read.specs.declared.frames.Written.{Written}

-- an offset_delta, locals and a stack (only the proof of read_frames needs it)
abbrev pub written_of : List VType → Written → reading.Written
written_of locals w = record { delta = w.delta; locals = locals; stack = w.stack }

-- the frames of the rows so far, and the frame before the next one, at an offset (only the proof of read_frames needs
-- it)
abbrev pub built_of : Built → ℕ → List FrameAt × reading.Before
built_of built offset = (built.frames, record { locals = built.locals; offset = Some offset })

-- a frame behind others (only the proof of read_frames needs it)
abbrev pub onto : List FrameAt → Option (FrameAt × reading.Before) → Option (List FrameAt × reading.Before)
onto frames next = option_map (λ (n : FrameAt × reading.Before). (frames ++ n.0 ∷ [], n.1)) next

-- the same, with whether a row names a float or a double (only the proof of read_frames needs it)
abbrev pub row_read : Built → Bool × ℕ → Bool × List FrameAt × reading.Before
row_read built r = (r.0, built.frames, record { locals = built.locals; offset = Some r.1 })

-- the same of the reading of a row (only the proof of read_frames needs it)
abbrev pub read_onto : List FrameAt → Result ((Bool × FrameAt × reading.Before) × Place) FormatFault
    → Result ((Bool × List FrameAt × reading.Before) × Place) FormatFault
read_onto frames (Ok x) = Ok ((x.0.0, frames ++ x.0.1 ∷ [], x.0.2), x.1)
read_onto frames (Err f) = Err f
