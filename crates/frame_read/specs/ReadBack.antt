-- Which frames are read back from their canonical rows (JVMS 4.7.4).
use Rattle.std.specs.Prelude.{◌≡◌, ℕ, ◌^◌, ◌<◌, ◌≤◌, true, false, List, [], ◌∷◌, length, slice_get, slice_index}
use Rattle.std.specs.Prelude.{position, nat_eq, Option, Some, None, Ok}
use Rattle.std.specs.List.{AllByRecursion}
use Rattle.class_model.specs.declared.pool.Entry.{Entry}
use Rattle.class_model.specs.declared.op.Op.{Op}
use Rattle.class_model.specs.declared.constant.PoolConstant.{PoolConstant}
use Rattle.class_model.specs.declared.frame.VType.{VType}
use Rattle.class_model.specs.declared.frame.VType.TheVariants as vtype
use Rattle.class_model.specs.declared.frame.FrameAt.{FrameAt}
use Rattle.class_model.specs.Frames.{words_of_types, cut_tops, stack_map_table}
use Rattle.class_model.specs.Lookups.{type_at}
use Rattle.class_model.specs.CanonicalPool.{index_of, class_constant, type_name}
use Rattle.class_model.specs.CanonicalFrames.{rows}
use Rattle.class_model.specs.ReadingFrames.{is_new}
use Rattle.frame_read.specs.Table.{frames_of}

-- a code whose instructions begin at these offsets, with the entries of the pool that is read and the constants of the
-- one that was written
module _ (entries : List Entry) (constants : List PoolConstant) (starts : List ℕ) (ops : List Op) where
  -- no instruction before the one of this number begins where it does, and its offset fits two bytes
  pub record HasPlace (n : ℕ) : Type 0 where
    pub offset : slice_index starts n < 2 ^ 16
    pub number : position (nat_eq (slice_index starts n)) starts ≡ Some n

  -- the entry at the index of its class says a type, and what isn't initialised is made by a new (JVMS 4.7.4)
  abbrev pub IsKnownType : VType → Type 0
  IsKnownType (vtype.Object class) =
      (index_of constants (class_constant (type_name class)) < 2 ^ 16)
      × (type_at entries (index_of constants (class_constant (type_name class))) ≡ Some class)
  IsKnownType (vtype.Uninit n) = HasPlace n × (is_new entries starts ops (slice_get ops n) ≡ true)
  IsKnownType _ = Unit {0}

  -- a frame at an instruction, with types that are known and have room, and without Tops at the end of its locals
  -- (JVMS 4.7.4)
  pub record IsKnownFrame (max_stack max_locals : ℕ) (frame : FrameAt) : Type 0 where
    pub place : HasPlace frame.index
    pub locals : AllByRecursion IsKnownType frame.frame.locals
    pub locals_short : length frame.frame.locals < 2 ^ 16
    pub cut : cut_tops frame.frame.locals ≡ frame.frame.locals
    pub locals_fit : words_of_types frame.frame.locals ≤ max_locals
    pub stack : AllByRecursion IsKnownType frame.frame.stack
    pub stack_short : length frame.frame.stack < 2 ^ 16
    pub stack_fits : words_of_types frame.frame.stack ≤ max_stack

  -- an offset lies behind another, if there is one (JVMS 4.7.4)
  abbrev pub IsBehind : Option ℕ → ℕ → Type 0
  IsBehind None offset = Unit {0}
  IsBehind (Some previous) offset = previous < offset

  -- each frame lies behind the one before (JVMS 4.7.4)
  abbrev pub Follow : Option ℕ → List FrameAt → Type 0
  Follow previous [] = Unit {0}
  Follow previous (frame ∷ frames) = IsBehind previous (slice_index starts frame.index)
      × Follow (Some (slice_index starts frame.index)) frames

-- the canonical rows of frames are read as these frames (the project's own: what is written can be read)
abbrev pub FramesAreReadBack : Type 0
FramesAreReadBack =
    (entries : List Entry) (constants : List PoolConstant) (starts : List ℕ) (ops : List Op) (max_stack max_locals : ℕ)
    (first : List VType) (frames : List FrameAt)
    → length frames < 2 ^ 16 → AllByRecursion (IsKnownFrame entries constants starts ops max_stack max_locals) frames
    → Follow entries constants starts ops None frames
    → frames_of entries starts ops max_stack max_locals first
    (stack_map_table (rows constants starts first None frames))
    ≡ Ok (record { frames = frames; names_float = false })
