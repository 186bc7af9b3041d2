-- Frames whose locals end in no Top, and the locals of the frame before (only the proof of renaming needs it).
use Rattle.std.specs.Prelude.{◌≡◌, ℕ, zero, suc, ◌<◌, List, []}
use Rattle.class_model.specs.FrameLists.{frame_numbered}
use Rattle.class_model.specs.Frames.{cut_tops}
use Rattle.class_model.specs.declared.frame.FrameAt.{FrameAt}
use Rattle.class_model.specs.declared.frame.VType.{VType}

-- the locals of a frame end in no Top (the project's own: so they are read)
abbrev pub IsCut : FrameAt → Type 0
IsCut f = cut_tops f.frame.locals ≡ f.frame.locals

-- so do those of the first frames
abbrev pub AreCut : ℕ → List FrameAt → Type 0
AreCut n frames = (k : ℕ) → k < n → IsCut (frame_numbered frames k)

-- the locals of the frame before that of a number
abbrev pub locals_before : List FrameAt → ℕ → List VType
locals_before frames zero = []
locals_before frames (suc n) = (frame_numbered frames n).frame.locals
