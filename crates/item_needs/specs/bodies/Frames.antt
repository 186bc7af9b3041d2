-- What a frame shares with the one before it (only the proof of system_of needs it).
use Rattle.std.specs.Prelude.{◌≡◌, ℕ, ◌+◌, List, take}
use Rattle.class_model.specs.FrameLists.{frame_numbered}
use Rattle.class_model.specs.declared.frame.FrameAt.{FrameAt}

-- so many locals of the frame of a number are those of the frame before; the first frame has none before it
pub record IsShared (frames : List FrameAt) (at n : ℕ) : Type 0 where
  pub first : at ≡ 0 → n ≡ 0
  pub same : (before : ℕ) → at ≡ before + 1
      → take n (frame_numbered frames at).frame.locals ≡ take n (frame_numbered frames before).frame.locals
