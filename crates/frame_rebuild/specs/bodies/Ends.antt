-- Where locals end after they moved (the project's own; only the proof of the walk needs it).
use Rattle.std.specs.Prelude.{ℕ, zero, suc, ◌+◌, ◌-◌, Bool, List, [], ◌∷◌, length, if◌then◌else◌, slice_get}
use Rattle.std.specs.Option.{unwrap_or}
use Rattle.class_model.specs.Frames.{words_of_type}
use Rattle.class_model.specs.FrameLists.{frame_numbered}
use Rattle.class_model.specs.declared.frame.FrameAt.{FrameAt}
use Rattle.class_model.specs.declared.frame.VType.{VType}
use Rattle.frame_rebuild.specs.declared.locals.End.{End}

-- before the first local
abbrev pub no_end : End
no_end = record { items = 0; slot = 0 }

module _ (cut : ℕ → Bool) where
  -- the end of a local behind another end
  abbrev pub end_behind : End → VType → End
  end_behind e ty = record {
    items = e.items + (if cut e.slot then words_of_type ty else 1);
    slot = e.slot + words_of_type ty;
  }

  -- the ends of locals behind an end
  unfoldable pub ends_from : End → List VType → List End
  ends_from e [] = []
  ends_from e (ty ∷ tys) = end_behind e ty ∷ ends_from (end_behind e ty) tys

-- the last of these ends
abbrev pub last_end : List End → End
last_end ends = unwrap_or (slice_get ends (length ends - 1)) no_end

-- the locals of the frame before that of a number
abbrev pub locals_before : List FrameAt → ℕ → List VType
locals_before frames zero = []
locals_before frames (suc n) = (frame_numbered frames n).frame.locals
