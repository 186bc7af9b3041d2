-- Reading the attribute StackMapTable from left to right (JVMS 4.7.4).
use Rattle.std.specs.Prelude.{ℕ, zero, suc, ◌-◌, Bool, true, false, ◌&&◌, ◌||◌, List, [], ◌∷◌, ◌++◌, length, take}
use Rattle.std.specs.Prelude.{slice_get, position, nat_eq, nat_le, Option, Some, None, option_map, option_and_then}
use Rattle.std.specs.Prelude.{Result, Ok, Err, ◌==◌, if◌then◌else◌}
use Rattle.jv_base.specs.Place.{Place}
use Rattle.format_reading.specs.Fault.{fault}
use Rattle.format_reading.specs.Reader.{FormatReader, u1, u2, lead, item, give, here, settle, many, ◌>>=◌}
use Rattle.format_reading.specs.declared.fault.FormatFault.{FormatFault}
use Rattle.format_reading.specs.declared.fault.FormatKind.{FormatKind}
use Rattle.format_reading.specs.declared.fault.FormatKind.TheVariants as bad
use Rattle.class_model.specs.declared.pool.Entry.{Entry}
use Rattle.class_model.specs.declared.op.Op.{Op}
use Rattle.class_model.specs.declared.op.Op.TheVariants as op
use Rattle.class_model.specs.declared.frame.VType.{VType}
use Rattle.class_model.specs.declared.frame.VType.TheVariants as vtype
use Rattle.class_model.specs.declared.frame.FrameAt.{FrameAt}
use Rattle.class_model.specs.Frames.{VerificationTypeInfo, TagInfo, ObjectInfo, UninitializedInfo, StackMapFrame}
use Rattle.class_model.specs.Frames.{SameFrame, SameLocalsOneStackItem, SameLocalsOneStackItemExtended, ChopFrame}
use Rattle.class_model.specs.Frames.{SameFrameExtended, AppendFrame, FullFrame, tagged_type, words_of_types, cut_tops}
use Rattle.class_model.specs.Frames.{offset_behind, names_float}
use Rattle.class_model.specs.Lookups.{due, type_at}

-- ---- rows as they are written

-- behind tag 7: the index of the CONSTANT_Class that names the class or array type (JVMS 4.7.4, Object_variable_info)
abbrev pub object_info : FormatReader VerificationTypeInfo
object_info = do
  cpool_index ← u2
  give (ObjectInfo cpool_index)

-- behind tag 8: the offset of the new that made the object (JVMS 4.7.4, Uninitialized_variable_info)
abbrev pub uninitialized_info : FormatReader VerificationTypeInfo
uninitialized_info = do
  offset ← u2
  give (UninitializedInfo offset)

-- what the tag of a type begins (JVMS 4.7.4)
abbrev pub type_begun : ℕ → Result (FormatReader VerificationTypeInfo) FormatKind
type_begun tag =
    if tag == 7 then Ok object_info
    else if tag == 8 then Ok uninitialized_info
    else if nat_le tag 6 then Ok (give (TagInfo tag))
    else Err bad.BadFrame

-- verification_type_info, where no tag is above 8 (JVMS 4.7.4)
unfoldable pub read_type : FormatReader VerificationTypeInfo
read_type = lead u1 type_begun

-- same_locals_1_stack_item_frame, 64 to 127: the type on the stack stands right behind the frame_type
abbrev pub one_item : ℕ → FormatReader StackMapFrame
one_item frame_type = do
  item ← read_type
  give (SameLocalsOneStackItem frame_type item)

-- same_locals_1_stack_item_frame_extended, 247
abbrev pub one_item_extended : FormatReader StackMapFrame
one_item_extended = do
  offset_delta ← u2
  item ← read_type
  give (SameLocalsOneStackItemExtended offset_delta item)

-- chop_frame, 248 to 250: 251 less the frame_type is how many locals go
abbrev pub chop : ℕ → FormatReader StackMapFrame
chop frame_type = do
  offset_delta ← u2
  give (ChopFrame frame_type offset_delta)

-- same_frame_extended, 251
abbrev pub same_extended : FormatReader StackMapFrame
same_extended = do
  offset_delta ← u2
  give (SameFrameExtended offset_delta)

-- append_frame, 252 to 254: the frame_type less 251 is how many locals come
abbrev pub append : ℕ → FormatReader StackMapFrame
append frame_type = do
  offset_delta ← u2
  locals ← many (frame_type - 251) read_type
  give (AppendFrame frame_type offset_delta locals)

-- full_frame, 255: all locals and the whole stack, each behind their count
abbrev pub full : FormatReader StackMapFrame
full = do
  offset_delta ← u2
  n ← u2
  locals ← many n read_type
  m ← u2
  stack ← many m read_type
  give (FullFrame offset_delta locals stack)

-- what a frame_type begins: 128 to 246 are no forms
abbrev pub row_begun : ℕ → Result (FormatReader StackMapFrame) FormatKind
row_begun frame_type =
    if nat_le frame_type 63 then Ok (give (SameFrame frame_type))
    else if nat_le frame_type 127 then Ok (one_item frame_type)
    else if nat_le frame_type 246 then Err bad.BadFrame
    else if frame_type == 247 then Ok one_item_extended
    else if nat_le frame_type 250 then Ok (chop frame_type)
    else if frame_type == 251 then Ok same_extended
    else if nat_le frame_type 254 then Ok (append frame_type)
    else Ok full

-- each fault of a row is one at its first byte (the project's own: the row is at fault)
abbrev pub at_row : {A : Type 0} → ℕ → Result (A × Place) FormatFault → Result (A × Place) FormatFault
at_row at (Ok x) = Ok x
at_row at (Err f) = Err (fault at f.kind)

-- stack_map_frame; a tag of a type in it that is none is also at fault at the frame_type (JVMS 4.7.4)
unfoldable pub read_row : FormatReader StackMapFrame
read_row p = at_row p.at (lead u1 row_begun p)

-- ---- what a row stands for

-- the frame before a row: its locals, Tops at their end among them, and its offset if it isn't the initial one
-- (JVMS 4.7.4)
pub record Before : Type 0 where
  pub locals : List VType
  pub offset : Option ℕ

-- an offset_delta, locals and a stack (JVMS 4.7.4)
pub record Written : Type 0 where
  pub delta : ℕ
  pub locals : List VType
  pub stack : List VType

module _ (pool : List Entry) (starts : List ℕ) (ops : List Op) where
  -- there is an instruction, and it is a new (JVMS 4.7.4, Uninitialized_variable_info)
  abbrev pub is_new : Option Op → Bool
  is_new (Some (op.New name)) = true
  is_new _ = false

  -- the number of a new (JVMS 4.7.4, Uninitialized_variable_info)
  abbrev pub only_new : ℕ → Option VType
  only_new n = if is_new (slice_get ops n) then Some (vtype.Uninit n) else None

  -- the type that is written, if its tag, its index or its offset leads to one (JVMS 4.7.4)
  abbrev pub type_of : VerificationTypeInfo → Option VType
  type_of (TagInfo tag) = tagged_type tag
  type_of (ObjectInfo cpool_index) = option_map (λ class. vtype.Object class) (type_at pool cpool_index)
  type_of (UninitializedInfo offset) = option_and_then only_new (position (nat_eq offset) starts)

  -- the types in their order, if each is one (JVMS 4.7.4)
  abbrev pub types_of : List VerificationTypeInfo → Option (List VType)
  types_of [] = Some []
  types_of (info ∷ infos) = option_and_then (λ ty. option_map (λ types. ty ∷ types) (types_of infos)) (type_of info)

  -- an offset_delta, locals and a stack together (JVMS 4.7.4)
  abbrev pub written : ℕ → List VType → List VType → Written
  written delta locals stack = record { delta = delta; locals = locals; stack = stack }

  -- the frame that is left when this many locals go (JVMS 4.7.4, chop_frame)
  abbrev pub chopped : ℕ → ℕ → List VType → Option Written
  chopped n delta before = if nat_le n (length before) then Some
      (written delta (take (length before - n) before) []) else None

  -- what a row behind these locals writes (JVMS 4.7.4)
  abbrev pub written_by : List VType → StackMapFrame → Option Written
  written_by before (SameFrame frame_type) = Some (written frame_type before [])
  written_by before (SameLocalsOneStackItem frame_type item) =
      option_map (λ stack. written (frame_type - 64) before stack) (types_of (item ∷ []))
  written_by before (SameLocalsOneStackItemExtended offset_delta item) =
      option_map (λ stack. written offset_delta before stack) (types_of (item ∷ []))
  written_by before (ChopFrame frame_type offset_delta) = chopped (251 - frame_type) offset_delta before
  written_by before (SameFrameExtended offset_delta) = Some (written offset_delta before [])
  written_by before (AppendFrame frame_type offset_delta infos) =
      option_map (λ types. written offset_delta (before ++ types) []) (types_of infos)
  written_by before (FullFrame offset_delta infos items) =
      option_and_then (λ locals. option_map (λ stack. written offset_delta locals stack) (types_of items))
      (types_of infos)

  module _ (max_stack max_locals : ℕ) where
    -- the locals and the stack are not too large (JVMS 4.7.4)
    abbrev pub fits : Written → Bool
    fits w = nat_le (words_of_types w.locals) max_locals && nat_le (words_of_types w.stack) max_stack

    -- the frame at the instruction of a number (JVMS 4.7.4; that Tops at the end are cut is the project's own)
    abbrev pub frame_at : Written → ℕ → FrameAt
    frame_at w n = record { index = n; frame = record { locals = cut_tops w.locals; stack = w.stack } }

    -- the frame at an offset, if an instruction begins there (JVMS 4.7.4)
    abbrev pub frame_of : ℕ → Written → Option (FrameAt × Before)
    frame_of offset w =
        if fits w then option_map (λ n. (frame_at w n, record { locals = w.locals; offset = Some offset }))
        (position (nat_eq offset) starts)
        else None

    -- a row's frame, if its types are types, its locals and stack have room, and an instruction begins at its offset
    -- (JVMS 4.7.4)
    abbrev pub row_stands : Before → StackMapFrame → Option (FrameAt × Before)
    row_stands before row =
        option_and_then (λ (w : Written). frame_of (offset_behind before.offset w.delta) w)
        (written_by before.locals row)

    -- ---- rows

    -- a row's frame and the frame before the next row (JVMS 4.7.4)
    unfoldable pub read_frame : Before → FormatReader (Bool × FrameAt × Before)
    read_frame before = do
      at ← here
      row ← read_row
      frame ← settle at (due bad.BadFrame (row_stands before row))
      give (names_float row, frame.0, frame.1)

    -- n rows: whether one names a float or a double, and the frames (JVMS 4.7.4)
    unfoldable pub read_frames_behind : ℕ → Before → FormatReader (Bool × List FrameAt)
    read_frames_behind zero before = give (false, [])
    read_frames_behind (suc n) before = do
      first ← read_frame before
      others ← read_frames_behind n first.2
      give (first.0 || others.0, first.1 ∷ others.1)

    -- the contents of a StackMapTable; first are the locals of the method's initial frame (JVMS 4.7.4)
    unfoldable pub read_frames : List VType → FormatReader (Bool × List FrameAt)
    read_frames first = do
      n ← u2
      read_frames_behind n (record { locals = first; offset = None })
