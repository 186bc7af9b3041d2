-- The canonical spelling of stack map frames: the first form that fits
-- (JVMS 4.7.4; which form is taken is the project's own).
use Rattle.std.specs.Prelude.{ℕ, ◌+◌, ◌-◌, Bool, true, false, ◌&&◌, List, [], ◌∷◌, ◌++◌, length, take, drop, map}
use Rattle.std.specs.Prelude.{slice_index, Option, Some, None, nat_eq, nat_le, if◌then◌else◌}
use Rattle.std.specs.List.{flat_map}
use Rattle.std.specs.Cmp.Lexicographic.{pointwise}
use Rattle.jv_base.specs.Names.{is_text}
use Rattle.jv_base.specs.Types.{field_text}
use Rattle.class_model.specs.declared.frame.VType.{VType}
use Rattle.class_model.specs.declared.frame.VType.TheVariants as vtype
use Rattle.class_model.specs.declared.frame.FrameAt.{FrameAt}
use Rattle.class_model.specs.Between.{between}
use Rattle.class_model.specs.Frames.{VerificationTypeInfo, TagInfo, ObjectInfo, UninitializedInfo, StackMapFrame}
use Rattle.class_model.specs.Frames.{SameFrame, SameLocalsOneStackItem, SameLocalsOneStackItemExtended, ChopFrame}
use Rattle.class_model.specs.Frames.{SameFrameExtended, AppendFrame, FullFrame}
use Rattle.class_model.specs.declared.constant.PoolConstant.{PoolConstant}
use Rattle.class_model.specs.CanonicalPool.{class_constant, class_constants, type_name, index_of}

-- the types are one; types of objects are where their descriptors are (JVMS 4.7.4)
abbrev pub same_type : VType → VType → Bool
same_type vtype.Top vtype.Top = true
same_type vtype.Int vtype.Int = true
same_type vtype.Long vtype.Long = true
same_type vtype.Null vtype.Null = true
same_type vtype.UninitThis vtype.UninitThis = true
same_type (vtype.Object a) (vtype.Object b) = is_text (field_text a) (field_text b)
same_type (vtype.Uninit a) (vtype.Uninit b) = nat_eq a b
same_type _ _ = false

-- there are as many of both, and in each place they are one (JVMS 4.7.4)
abbrev pub same_types : List VType → List VType → Bool
same_types one other = pointwise same_type one other

-- ---- forms

-- what a frame is written as, behind the locals of the frame before
pub data Form : Type 0 where
  same : Form
  same_with_item : (item : VType) → Form
  chop : (gone : ℕ) → Form
  append : (new : List VType) → Form
  full : (locals stack : List VType) → Form

-- from one to three of the last locals go (JVMS 4.7.4, chop_frame)
abbrev pub is_chop : List VType → List VType → Bool
is_chop before locals =
    between 1 3 (length before - length locals) && same_types locals (take (length locals) before)

-- from one to three locals are new (JVMS 4.7.4, append_frame)
abbrev pub is_append : List VType → List VType → Bool
is_append before locals =
    between 1 3 (length locals - length before) && same_types before (take (length before) locals)

-- with an empty stack, with one item, with more (JVMS 4.7.4; that the first form is taken is the project's own)
abbrev pub form_of : List VType → List VType → List VType → Form
form_of before locals [] =
    if same_types before locals then same
    else if is_chop before locals then chop (length before - length locals)
    else if is_append before locals then append (drop (length before) locals)
    else full locals []
form_of before locals (item ∷ []) = if same_types before locals then same_with_item item else full locals (item ∷ [])
form_of before locals (item ∷ next ∷ stack) = full locals (item ∷ next ∷ stack)

-- the types that a form writes, in their order
abbrev pub types_written : Form → List VType
types_written same = []
types_written (same_with_item item) = item ∷ []
types_written (chop gone) = []
types_written (append new) = new
types_written (full locals stack) = locals ++ stack

-- ---- constants

-- the class or array type of an object, with its name; no other type refers to the pool (JVMS 4.4.1, 4.7.4)
abbrev pub type_constants : VType → List PoolConstant
type_constants (vtype.Object ty) = class_constants (type_name ty)
type_constants _ = []

-- the classes that the frames name where they write them, the first frame behind these locals (JVMS 4.4.1, 4.7.4)
abbrev pub frame_constants : List VType → List FrameAt → List PoolConstant
frame_constants before [] = []
frame_constants before (frame ∷ frames) =
    flat_map type_constants (types_written (form_of before frame.frame.locals frame.frame.stack))
    ++ frame_constants frame.frame.locals frames

-- ---- rows

module _ (pool : List PoolConstant) (all : List ℕ) where
  -- a verification_type_info: an object by its class's index, an uninitialised one by the offset of its new (JVMS
  -- 4.7.4)
  abbrev pub type_info : VType → VerificationTypeInfo
  type_info vtype.Top = TagInfo 0
  type_info vtype.Int = TagInfo 1
  type_info vtype.Long = TagInfo 4
  type_info vtype.Null = TagInfo 5
  type_info vtype.UninitThis = TagInfo 6
  type_info (vtype.Object ty) = ObjectInfo (index_of pool (class_constant (type_name ty)))
  type_info (vtype.Uninit n) = UninitializedInfo (slice_index all n)

  -- a form with its offset_delta, which is short where it is at most 63
  abbrev pub row : ℕ → Form → StackMapFrame
  row delta same = if nat_le delta 63 then SameFrame delta else SameFrameExtended delta
  row delta (same_with_item item) =
      if nat_le delta 63 then SameLocalsOneStackItem (64 + delta) (type_info item)
      else SameLocalsOneStackItemExtended delta (type_info item)
  row delta (chop gone) = ChopFrame (251 - gone) delta
  row delta (append new) = AppendFrame (251 + length new) delta (map type_info new)
  row delta (full locals stack) = FullFrame delta (map type_info locals) (map type_info stack)

  -- the delta to an offset from that of the frame before
  abbrev pub delta_to : Option ℕ → ℕ → ℕ
  delta_to None offset = offset
  delta_to (Some previous) offset = offset - (previous + 1)

  -- the rows of frames behind these locals and this offset
  abbrev pub rows : List VType → Option ℕ → List FrameAt → List StackMapFrame
  rows before previous [] = []
  rows before previous (frame ∷ frames) =
      row (delta_to previous (slice_index all frame.index)) (form_of before frame.frame.locals frame.frame.stack)
      ∷ rows frame.frame.locals (Some (slice_index all frame.index)) frames
