-- The attribute StackMapTable (JVMS 4.7.4, 4.10.1.2, 4.10.1.6).
use Rattle.std.specs.Prelude.{◌≡◌, ℕ, ◌+◌, ◌-◌, ◌^◌, ◌<◌, ◌≤◌, Bool, true, false, List, [], ◌∷◌, ◌++◌, length, take}
use Rattle.std.specs.Prelude.{map, slice_get, sum_by, Option, Some, None, IsTrue, ◌==◌, ◌||◌, if◌then◌else◌, codes}
use Rattle.std.specs.Int.{w16, to_be_bytes}
use Rattle.std.specs.List.{AllZip, flat_map, list_any}
use Rattle.jv_base.specs.Names.{is_text}
use Rattle.jv_base.specs.declared.types.FieldType.{FieldType}
use Rattle.jv_base.specs.declared.types.MethodType.{MethodType}
use Rattle.jv_base.specs.declared.types.Base.{Base}
use Rattle.jv_base.specs.declared.types.Base.TheVariants as base
use Rattle.class_model.specs.declared.pool.Entry.{Entry}
use Rattle.class_model.specs.declared.op.Op.TheVariants as op
use Rattle.class_model.specs.declared.code.Ins.{Ins}
use Rattle.class_model.specs.declared.frame.VType.{VType}
use Rattle.class_model.specs.declared.frame.VType.TheVariants as vtype
use Rattle.class_model.specs.declared.frame.FrameAt.{FrameAt}
use Rattle.class_model.specs.Between.{between}
use Rattle.class_model.specs.Structure.{AttributeInfo}
use Rattle.class_model.specs.ConstantPool.{IsTypeAt, class_type}

-- ---- the table as it is written

-- verification_type_info: an object's class by its index, an uninitialised object by the offset of its new, others by
-- their tag (JVMS 4.7.4)
pub data VerificationTypeInfo : Type 0 where
  TagInfo : (tag : ℕ) → VerificationTypeInfo
  ObjectInfo : (cpool_index : ℕ) → VerificationTypeInfo
  UninitializedInfo : (offset : ℕ) → VerificationTypeInfo

-- a type as it is written, its tag first (JVMS 4.7.4)
abbrev pub verification_type_info : VerificationTypeInfo → List ℕ
verification_type_info (TagInfo tag) = tag ∷ []
verification_type_info (ObjectInfo cpool_index) = 7 ∷ to_be_bytes w16 cpool_index
verification_type_info (UninitializedInfo offset) = 8 ∷ to_be_bytes w16 offset

-- stack_map_frame (JVMS 4.7.4)
pub data StackMapFrame : Type 0 where
  SameFrame : (frame_type : ℕ) → StackMapFrame
  SameLocalsOneStackItem : (frame_type : ℕ) → (item : VerificationTypeInfo) → StackMapFrame
  SameLocalsOneStackItemExtended : (offset_delta : ℕ) → (item : VerificationTypeInfo) → StackMapFrame
  ChopFrame : (frame_type offset_delta : ℕ) → StackMapFrame
  SameFrameExtended : (offset_delta : ℕ) → StackMapFrame
  AppendFrame : (frame_type offset_delta : ℕ) → (locals : List VerificationTypeInfo) → StackMapFrame
  FullFrame : (offset_delta : ℕ) → (locals stack : List VerificationTypeInfo) → StackMapFrame

-- the locals or the stack of a full_frame, behind number_of_locals or number_of_stack_items (JVMS 4.7.4)
abbrev pub counted_types : List VerificationTypeInfo → List ℕ
counted_types infos = to_be_bytes w16 (length infos) ++ flat_map verification_type_info infos

-- a row as it is written, its frame_type first (JVMS 4.7.4)
abbrev pub stack_map_frame : StackMapFrame → List ℕ
stack_map_frame (SameFrame frame_type) = frame_type ∷ []
stack_map_frame (SameLocalsOneStackItem frame_type item) = frame_type ∷ verification_type_info item
stack_map_frame (SameLocalsOneStackItemExtended offset_delta item) = 247 ∷
    (to_be_bytes w16 offset_delta ++ verification_type_info item)
stack_map_frame (ChopFrame frame_type offset_delta) = frame_type ∷ to_be_bytes w16 offset_delta
stack_map_frame (SameFrameExtended offset_delta) = 251 ∷ to_be_bytes w16 offset_delta
stack_map_frame (AppendFrame frame_type offset_delta locals) =
    frame_type ∷ (to_be_bytes w16 offset_delta ++ flat_map verification_type_info locals)
stack_map_frame (FullFrame offset_delta locals stack) =
    255 ∷ (to_be_bytes w16 offset_delta ++ (counted_types locals ++ counted_types stack))

-- the contents of a StackMapTable (JVMS 4.7.4)
abbrev pub stack_map_table : List StackMapFrame → List ℕ
stack_map_table rows = to_be_bytes w16 (length rows) ++ flat_map stack_map_frame rows

-- ---- types

-- the types that are their tag; a float and a double, which are left out, stand as Top
-- (JVMS 4.7.4; that float and double stand as Top is the project's own)
abbrev pub tagged_type : ℕ → Option VType
tagged_type tag =
    if tag == 0 then Some vtype.Top
    else if tag == 1 then Some vtype.Int
    else if tag == 2 then Some vtype.Top
    else if tag == 3 then Some vtype.Top
    else if tag == 4 then Some vtype.Long
    else if tag == 5 then Some vtype.Null
    else if tag == 6 then Some vtype.UninitThis
    else None

-- the tag of a float or of a double (JVMS 4.7.4)
abbrev pub is_float_info : VerificationTypeInfo → Bool
is_float_info (TagInfo tag) = tag == 2 || tag == 3
is_float_info _ = false

-- a row names a float or a double (the project's own: floats and doubles are left out)
abbrev pub names_float : StackMapFrame → Bool
names_float (SameLocalsOneStackItem frame_type item) = is_float_info item
names_float (SameLocalsOneStackItemExtended offset_delta item) = is_float_info item
names_float (AppendFrame frame_type offset_delta locals) = list_any is_float_info locals
names_float (FullFrame offset_delta locals stack) = list_any is_float_info locals || list_any is_float_info stack
names_float _ = false

-- a long takes two words; a double stands as Top, and takes one
-- (JVMS 4.7.4, Long_variable_info; that a double takes one is the project's own)
abbrev pub words_of_type : VType → ℕ
words_of_type vtype.Long = 2
words_of_type _ = 1

-- how much of max_locals or max_stack the types take (JVMS 4.7.3)
abbrev pub words_of_types : List VType → ℕ
words_of_types types = sum_by words_of_type types

-- the type is Top
abbrev pub is_top : VType → Bool
is_top vtype.Top = true
is_top _ = false

-- a Top before others stays, one at the end is cut (the project's own: locals of frames end in no Top)
abbrev pub before_cut : VType → List VType → List VType
before_cut vtype.Top [] = []
before_cut ty types = ty ∷ types

-- the types without the Tops at their end (the project's own: locals of frames end in no Top)
abbrev pub cut_tops : List VType → List VType
cut_tops [] = []
cut_tops (ty ∷ types) = before_cut ty (cut_tops types)

-- the type that a parameter with this base and no dimensions has in the initial frame (JVMS 4.10.1.6)
abbrev pub base_vtype : FieldType → Base → VType
base_vtype ty base.Long = vtype.Long
base_vtype ty base.Float = vtype.Top
base_vtype ty base.Double = vtype.Top
base_vtype ty (base.Class name) = vtype.Object ty
base_vtype ty _ = vtype.Int

-- the type that a parameter of a type has in the initial frame: an array is an object, a byte an int (JVMS 4.10.1.6)
abbrev pub vtype_of : FieldType → VType
vtype_of ty = if ty.dims == 0 then base_vtype ty ty.base else vtype.Object ty

-- the type that `this` has in the initial frame (JVMS 4.10.1.6)
abbrev pub this_type : List ℕ → List ℕ → VType
this_type class name = if is_text name (codes "<init>") then vtype.UninitThis else vtype.Object (class_type class)

-- the locals of the initial frame: `this` where the method isn't static, and the parameters (JVMS 4.10.1.6); the Tops
-- of float and double parameters count, also at the end, and chop and append begin from them
abbrev pub initial_locals : List ℕ → Bool → List ℕ → MethodType → List VType
initial_locals class is_static name ty = (if is_static then [] else this_type class name ∷ []) ++ map vtype_of ty.args

-- ---- what the rows stand for

-- the first offset is its delta, each other one lies behind the one before by its delta and 1 (JVMS 4.7.4)
abbrev pub offset_behind : Option ℕ → ℕ → ℕ
offset_behind None delta = delta
offset_behind (Some previous) delta = previous + delta + 1

module _ (pool : List Entry) (starts : List ℕ) (ins : List Ins) where
  -- the instruction of this number is a new (JVMS 4.7.4, Uninitialized_variable_info)
  pub record IsNew (n : ℕ) : Type 0 where
    pub at : Ins
    pub there : slice_get ins n ≡ Some at
    pub name : List ℕ
    pub new : at.op ≡ op.New name

  -- what is written stands for the type; an uninitialised object is known by the number of its new (JVMS 4.7.4)
  abbrev pub IsVType : VerificationTypeInfo → VType → Type 0
  IsVType (TagInfo tag) ty = tagged_type tag ≡ Some ty
  IsVType (ObjectInfo cpool_index) ty =
      (cpool_index < 2 ^ 16) × (class : FieldType) × IsTypeAt pool cpool_index class × (ty ≡ vtype.Object class)
  IsVType (UninitializedInfo offset) ty =
      (offset < 2 ^ 16) × (n : ℕ) × (slice_get starts n ≡ Some offset) × IsNew n × (ty ≡ vtype.Uninit n)

  -- so many types, which fit their count (JVMS 4.7.4)
  abbrev pub AreVTypes : List VerificationTypeInfo → List VType → Type 0
  AreVTypes infos types = (length infos < 2 ^ 16) × AllZip IsVType infos types

  -- a row, behind these locals, stands for an offset_delta, locals and a stack (JVMS 4.7.4)
  abbrev pub IsFrame : List VType → StackMapFrame → ℕ → List VType → List VType → Type 0
  IsFrame before (SameFrame frame_type) delta locals stack =
      (frame_type ≤ 63) × (delta ≡ frame_type) × (locals ≡ before) × (stack ≡ [])
  IsFrame before (SameLocalsOneStackItem frame_type item) delta locals stack =
      IsTrue (between 64 127 frame_type) × (delta ≡ frame_type - 64) × (locals ≡ before)
      × AllZip IsVType (item ∷ []) stack
  IsFrame before (SameLocalsOneStackItemExtended offset_delta item) delta locals stack =
      (offset_delta < 2 ^ 16) × (delta ≡ offset_delta) × (locals ≡ before) × AllZip IsVType (item ∷ []) stack
  IsFrame before (ChopFrame frame_type offset_delta) delta locals stack =
      IsTrue (between 248 250 frame_type) × (offset_delta < 2 ^ 16) × (delta ≡ offset_delta)
      × (251 - frame_type ≤ length before) × (locals ≡ take (length before - (251 - frame_type)) before) × (stack ≡ [])
  IsFrame before (SameFrameExtended offset_delta) delta locals stack =
      (offset_delta < 2 ^ 16) × (delta ≡ offset_delta) × (locals ≡ before) × (stack ≡ [])
  IsFrame before (AppendFrame frame_type offset_delta infos) delta locals stack =
      IsTrue (between 252 254 frame_type) × (offset_delta < 2 ^ 16) × (delta ≡ offset_delta)
      × (length infos ≡ frame_type - 251)
      × (types : List VType) × AreVTypes infos types × (locals ≡ before ++ types) × (stack ≡ [])
  IsFrame before (FullFrame offset_delta infos items) delta locals stack =
      (offset_delta < 2 ^ 16) × (delta ≡ offset_delta) × AreVTypes infos locals × AreVTypes items stack

  module _ (max_stack max_locals : ℕ) where
    -- a row behind these locals and this offset stands for a frame, whose locals and offset lie before the next row
    -- (JVMS 4.7.4)
    pub record IsFrameAt (before : List VType) (previous : Option ℕ) (row : StackMapFrame) (frame : FrameAt)
        (locals : List VType) (offset : ℕ) : Type 0 where
      pub delta : ℕ
      pub stands : IsFrame before row delta locals frame.frame.stack
      pub offset_is : offset ≡ offset_behind previous delta
      pub index : slice_get starts frame.index ≡ Some offset
      pub cut : frame.frame.locals ≡ cut_tops locals
      pub locals_fit : words_of_types locals ≤ max_locals
      pub stack_fits : words_of_types frame.frame.stack ≤ max_stack

    -- rows behind these locals and this offset stand for frames (JVMS 4.7.4)
    abbrev pub AreFrames : List VType → Option ℕ → List StackMapFrame → List FrameAt → Type 0
    AreFrames before previous [] [] = Unit {0}
    AreFrames before previous [] (frame ∷ frames) = ⊥
    AreFrames before previous (row ∷ rows) [] = ⊥
    AreFrames before previous (row ∷ rows) (frame ∷ frames) =
        (locals : List VType) × (offset : ℕ) × IsFrameAt before previous row frame locals offset
        × AreFrames locals (Some offset) rows frames

-- at most one table, of these rows (JVMS 4.7.4)
abbrev pub IsMapOf : List AttributeInfo → List StackMapFrame → Type 0
IsMapOf [] rows = rows ≡ []
IsMapOf (a ∷ []) rows = (length rows < 2 ^ 16) × (a.info ≡ stack_map_table rows)
IsMapOf (a ∷ b ∷ others) rows = ⊥
