-- There is one row for each frame.
use Rattle.std.proofs.Common.{◌≡◌, ℕ, List, [], ◌∷◌, length, Option, Some, refl, ap, suc}
use Rattle.std.specs.Prelude.{slice_index}
use Rattle.class_model.specs.declared.constant.PoolConstant.{PoolConstant}
use Rattle.class_model.specs.declared.frame.VType.{VType}
use Rattle.class_model.specs.declared.frame.FrameAt.{FrameAt}
use Rattle.class_model.specs.CanonicalFrames.{rows}

pub rows_counted : (pool : List PoolConstant) (all : List ℕ) (before : List VType) (previous : Option ℕ)
    (frames : List FrameAt)
    → length (rows pool all before previous frames) ≡ length frames
rows_counted pool all before previous [] = refl
rows_counted pool all before previous (frame ∷ frames) = ap suc (rows_counted pool all frame.frame.locals (Some
    (slice_index all frame.index)) frames)
