-- The attribute Code (JVMS 4.7.3).
use Rattle.std.specs.Prelude.{◌≡◌, ℕ, ◌^◌, ◌<◌, List, [], ◌∷◌, ◌++◌, length, slice_get, Option, Some, None, codes}
use Rattle.std.specs.Prelude.{if◌then◌else◌}
use Rattle.std.specs.List.{AllByRecursion, AllZip, flat_map, list_any}
use Rattle.format_reading.specs.Spelling.{AllStand}
use Rattle.class_model.specs.declared.pool.Entry.{Entry}
use Rattle.class_model.specs.declared.code.Code.{Code}
use Rattle.class_model.specs.declared.code.Ins.{Ins}
use Rattle.class_model.specs.declared.code.Handler.{Handler}
use Rattle.class_model.specs.declared.frame.VType.{VType}
use Rattle.class_model.specs.declared.class.LeftKind.{LeftKind}
use Rattle.class_model.specs.declared.class.LeftKind.TheVariants as left
use Rattle.class_model.specs.Structure.{AttributeInfo, ExceptionInfo, CodeInfo, code_info}
use Rattle.class_model.specs.ConstantPool.{IsOptionalClassAt}
use Rattle.class_model.specs.InstructionStructure.{Info, info_bytes, starts_of}
use Rattle.class_model.specs.Instructions.{IsOp, Begins, IsLeftOutCode}
use Rattle.class_model.specs.Attributes.{named, AreAttributes}
use Rattle.class_model.specs.LineNumbers.{LineNumber, AreLineTables, line_at}
use Rattle.class_model.specs.Frames.{StackMapFrame, names_float, AreFrames, IsMapOf}

-- the bytes of an instruction at an offset stand for the instruction with its line (JVMS 4.7.12, 6.5)
abbrev pub IsIns : List Entry → List ℕ → List LineNumber → ℕ → Info → Ins → Type 0
IsIns pool starts lines at info ins = IsOp (Begins starts) pool at info ins.op × (ins.line ≡ line_at lines at)

-- a row of the exception table, in a code whose instructions begin at these offsets and that ends at another, is a
-- handler (JVMS 4.7.3)
pub record IsHandler (pool : List Entry) (starts : List ℕ) (end : ℕ) (raw : ExceptionInfo)
    (handler : Handler) : Type 0 where
  pub from : slice_get starts handler.from ≡ Some raw.start_pc
  pub to : slice_get (starts ++ end ∷ []) handler.to ≡ Some raw.end_pc
  pub range : raw.start_pc < raw.end_pc
  pub entry : slice_get starts handler.entry ≡ Some raw.handler_pc
  pub caught : IsOptionalClassAt pool raw.catch_type handler.caught

-- the sizes that each Code tells (JVMS 4.7.3, 4.9.1)
pub record HasCodeSizes (raw : CodeInfo) : Type 0 where
  pub max_stack_fits : raw.max_stack < 2 ^ 16
  pub max_locals_fits : raw.max_locals < 2 ^ 16
  pub length_from : 0 < length raw.code
  pub length_to : length raw.code < 2 ^ 16
  pub handlers_fit : length raw.exception_table < 2 ^ 16

-- a float or a double in the frames is left out (the project's own: no value of a frame has them)
abbrev pub left_out_frames : List StackMapFrame → Option LeftKind
left_out_frames rows = if list_any names_float rows then Some left.FloatType else None

-- the contents stand for a code, with what is left out in it; first are the locals of the method's initial frame
-- (JVMS 4.7.3)
pub record IsCode (pool : List Entry) (first : List VType) (raw : CodeInfo) (code : Code)
    (left_out : Option LeftKind) : Type 0 where
  pub sizes : HasCodeSizes raw
  pub max_stack : code.max_stack ≡ raw.max_stack
  pub max_locals : code.max_locals ≡ raw.max_locals
  pub infos : List Info
  pub is : raw.code ≡ flat_map info_bytes infos
  pub lines : List LineNumber
  pub instructions : AllStand info_bytes (IsIns pool (starts_of infos) lines) 0 infos code.ins
  pub handlers : AllZip (IsHandler pool (starts_of infos) (length raw.code)) raw.exception_table code.handlers
  pub attributes : AreAttributes pool raw.attributes
  pub line_tables : AreLineTables (named pool (codes "LineNumberTable") raw.attributes) lines
  pub rows : List StackMapFrame
  pub map : IsMapOf (named pool (codes "StackMapTable") raw.attributes) rows
  pub frames : AreFrames pool (starts_of infos) code.ins raw.max_stack raw.max_locals first None rows code.frames
  pub floats : left_out ≡ left_out_frames rows

-- ---- a code with an instruction that is left out (the project's own: it is passed over)

-- the items fit their bytes (JVMS 4.7.3)
abbrev pub FitsException : ExceptionInfo → Type 0
FitsException e = (e.start_pc < 2 ^ 16) × (e.end_pc < 2 ^ 16) × (e.handler_pc < 2 ^ 16) × (e.catch_type < 2 ^ 16)

-- the index fits two bytes, and the length of the contents four; the name need not be one (JVMS 4.7)
abbrev pub FitsAttribute : AttributeInfo → Type 0
FitsAttribute a = (a.attribute_name_index < 2 ^ 16) × (length a.info < 2 ^ 32)

-- what stands behind that instruction is passed over by its length
pub record IsPassedOver (pool : List Entry) (raw : CodeInfo) (kind : LeftKind) : Type 0 where
  pub sizes : HasCodeSizes raw
  pub code : IsLeftOutCode pool raw.code kind
  pub handlers : AllByRecursion FitsException raw.exception_table
  pub count_fits : length raw.attributes < 2 ^ 16
  pub attributes : AllByRecursion FitsAttribute raw.attributes

-- the contents of a Code, with what is left out: there is no code where an instruction is
-- (JVMS 4.7.3; that there may be no code is the project's own)
abbrev pub IsBody : List Entry → List VType → List ℕ → Option Code → Option LeftKind → Type 0
IsBody pool first info (Some code) left_out = (raw : CodeInfo) × (info ≡ code_info raw)
    × IsCode pool first raw code left_out
IsBody pool first info None left_out = (raw : CodeInfo) × (info ≡ code_info raw) × (kind : LeftKind)
    × (left_out ≡ Some kind) × IsPassedOver pool raw kind
