-- Well-formed frames are read back from their canonical rows (JVMS 4.7.4).
use Rattle.std.specs.Prelude.{◌≡◌, ℕ, ◌^◌, ◌<◌, List, length, map, AllPairs, false, Some, None, Ok}
use Rattle.std.specs.List.{AllByRecursion}
use Rattle.class_model.specs.declared.pool.Entry.{Entry}
use Rattle.class_model.specs.declared.code.Code.{Code}
use Rattle.class_model.specs.declared.code.Ins.{Ins}
use Rattle.class_model.specs.declared.constant.PoolConstant.{PoolConstant}
use Rattle.class_model.specs.declared.frame.VType.{VType}
use Rattle.class_model.specs.declared.frame.VType.TheVariants as vtype
use Rattle.class_model.specs.declared.frame.FrameAt.{FrameAt}
use Rattle.class_model.specs.Frames.{stack_map_table}
use Rattle.class_model.specs.Lookups.{type_at}
use Rattle.class_model.specs.CanonicalPool.{index_of, class_constant, type_name}
use Rattle.class_model.specs.CanonicalFrames.{rows}
use Rattle.class_model.specs.WellFormed.{IsGoodFrame, Ascend}
use Rattle.frame_read.specs.Table.{frames_of}

-- at the index of the constant of its class the entries say the type, if it is an object's (JVMS 4.4.1, 4.7.4)
abbrev pub IsSaid : List Entry → List PoolConstant → VType → Type 0
IsSaid entries constants (vtype.Object class) =
    (index_of constants (class_constant (type_name class)) < 2 ^ 16)
    × (type_at entries (index_of constants (class_constant (type_name class))) ≡ Some class)
IsSaid entries constants _ = Unit {0}

-- of all types of a frame (JVMS 4.4.1, 4.7.4)
abbrev pub TypesAreSaid : List Entry → List PoolConstant → FrameAt → Type 0
TypesAreSaid entries constants frame = AllByRecursion (IsSaid entries constants) frame.frame.locals
    × AllByRecursion (IsSaid entries constants) frame.frame.stack

-- the frames of a well-formed code whose instructions begin at these offsets; the entries of the pool say the classes
-- of their types at the indices of their constants, and may say others beside (JVMS 4.7.3, 4.7.4)
pub record AreWritableFrames (entries : List Entry) (constants : List PoolConstant) (starts : List ℕ)
    (code : Code) : Type 0 where
  pub begin : length starts ≡ length code.ins
  pub offsets : AllByRecursion (λ offset. offset < 2 ^ 16) starts
  pub offsets_ascend : AllPairs ◌<◌ starts
  pub max_stack : code.max_stack < 2 ^ 16
  pub max_locals : code.max_locals < 2 ^ 16
  pub good : AllByRecursion (IsGoodFrame code) code.frames
  pub ascending : AllPairs Ascend code.frames
  pub count : length code.frames < 2 ^ 16
  pub said : AllByRecursion (TypesAreSaid entries constants) code.frames

-- the canonical rows of the frames of a well-formed code are read as these frames, behind any first frame
-- (the project's own: what is written can be read)
abbrev pub GoodFramesAreReadBack : Type 0
GoodFramesAreReadBack =
    (entries : List Entry) (constants : List PoolConstant) (starts : List ℕ) (code : Code) (first : List VType)
    → AreWritableFrames entries constants starts code
    → frames_of entries starts (map (λ (i : Ins). i.op) code.ins) code.max_stack code.max_locals first (stack_map_table
    (rows constants starts first None code.frames))
    ≡ Ok (record { frames = code.frames; names_float = false })
