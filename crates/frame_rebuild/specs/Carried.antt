-- The frames of a code from which instructions go (the project's own; JVMS 4.7.4 has the frames).
use Rattle.std.specs.Prelude.{ℕ, ◌+◌, Bool, not, ◌&&◌, ◌||◌, ◌==◌, List, [], ◌∷◌, ◌++◌, map, if◌then◌else◌}
use Rattle.class_model.specs.Frames.{cut_tops, words_of_type}
use Rattle.class_model.specs.declared.frame.FrameAt.{FrameAt}
use Rattle.class_model.specs.declared.frame.VType.{VType}
use Rattle.class_model.specs.declared.frame.VType.TheVariants as vtype
use Rattle.code_edit.specs.Rewriting.{place}

-- as many Tops as the type takes local variables
abbrev pub tops : VType → List VType
tops vtype.Long = vtype.Top ∷ vtype.Top ∷ []
tops ty = vtype.Top ∷ []

-- ---- types

-- Which indices stay.
module _ (lives : ℕ → Bool) where
  -- an object that isn't initialised goes on being known by its new, where that stays; else nothing
  -- is known of it
  abbrev pub moved_type : VType → VType
  moved_type (vtype.Uninit k) = if lives k then vtype.Uninit (place lives k) else vtype.Top
  moved_type ty = ty

  -- Of which slots what was stored is gone.
  module _ (cut : ℕ → Bool) where
    -- what becomes of a local that begins at a slot
    abbrev pub moved_local : ℕ → VType → List VType
    moved_local slot ty = if cut slot then tops ty else moved_type ty ∷ []

    -- and of the locals from a slot on
    unfoldable pub moved_locals : ℕ → List VType → List VType
    moved_locals slot [] = []
    moved_locals slot (ty ∷ tys) = moved_local slot ty ++ moved_locals (slot + words_of_type ty) tys

    -- a frame where its index comes to stand
    abbrev pub moved_frame : FrameAt → FrameAt
    moved_frame f = record {
      index = place lives f.index;
      frame = record {
        locals = cut_tops (moved_locals 0 f.frame.locals);
        stack = map moved_type f.frame.stack;
      };
    }

-- ---- frames

-- Which indices stay, and which are targets.
module _ (lives is_led : ℕ → Bool) where
  -- a frame counts whose index stays, or to whose index something led
  abbrev pub counts : FrameAt → Bool
  counts f = lives f.index || is_led f.index

  -- where the first of these frames that counts comes to stand, or the end
  unfoldable pub next_place : ℕ → List FrameAt → ℕ
  next_place end [] = end
  next_place end (f ∷ fs) = if counts f then place lives f.index else next_place end fs

  -- a frame stays that counts, where the next one that counts comes to stand elsewhere: so an index
  -- has its own frame, or else that of the nearest target that was left out directly before it
  abbrev pub is_carried : ℕ → FrameAt → List FrameAt → Bool
  is_carried end f fs = counts f && not (place lives f.index == next_place end fs)

  -- the frames that stay, at their new places, of a code that then has this end
  unfoldable pub carried : (cut : ℕ → Bool) (end : ℕ) → List FrameAt → List FrameAt
  carried cut end [] = []
  carried cut end (f ∷ fs) =
      if is_carried end f fs then moved_frame lives cut f ∷ carried cut end fs
      else carried cut end fs
