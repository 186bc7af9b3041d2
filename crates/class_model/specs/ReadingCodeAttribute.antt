-- Reading the attribute Code from left to right (JVMS 4.7.3).
use Rattle.std.specs.Prelude.{ℕ, ◌+◌, ◌*◌, ◌^◌, Bool, true, false, List, [], ◌∷◌, ◌++◌, length, position, nat_eq}
use Rattle.std.specs.Prelude.{nat_lt, codes, Option, Some, None, Result, Ok, Err, ◌==◌, if◌then◌else◌}
use Rattle.jv_base.specs.Names.{is_text}
use Rattle.format_reading.specs.Reader.{FormatReader, u2, u4, bytes, item, give, here, settle, of_result, part, many}
use Rattle.format_reading.specs.Reader.{◌>>=◌}
use Rattle.format_reading.specs.declared.fault.FormatKind.{FormatKind}
use Rattle.format_reading.specs.declared.fault.FormatKind.TheVariants as bad
use Rattle.class_model.specs.declared.pool.Entry.{Entry}
use Rattle.class_model.specs.declared.op.Op.{Op}
use Rattle.class_model.specs.declared.code.Code.{Code}
use Rattle.class_model.specs.declared.code.Ins.{Ins}
use Rattle.class_model.specs.declared.code.Handler.{Handler}
use Rattle.class_model.specs.declared.frame.VType.{VType}
use Rattle.class_model.specs.declared.frame.FrameAt.{FrameAt}
use Rattle.class_model.specs.declared.class.LeftKind.{LeftKind}
use Rattle.class_model.specs.declared.class.LeftKind.TheVariants as left
use Rattle.class_model.specs.InstructionStructure.{Info, info_bytes, starts_of}
use Rattle.class_model.specs.LineNumbers.{LineNumber, line_at}
use Rattle.class_model.specs.Lookups.{due, optional_class_at}
use Rattle.class_model.specs.ReadingCode.{CodeRead, instructions, has_left_out, left_out_kind, until_end, ops_of}
use Rattle.class_model.specs.ReadingFrames.{read_frames}
use Rattle.class_model.specs.ReadingAttributes.{counted_attributes, once, line_number_table}

-- ---- handlers

-- the numbers of the instructions that begin at three offsets, of which the second may be the end (JVMS 4.7.3)
abbrev pub Places : Type 0
Places = ℕ × ℕ × ℕ

-- all three, where each was found (JVMS 4.7.3)
abbrev pub places : Option ℕ → Option ℕ → Option ℕ → Option Places
places (Some from) (Some to) (Some entry) = Some (from, to, entry)
places _ _ _ = None

-- the number of the instruction that begins at an offset of the code, none inside of one (JVMS 4.9.1)
abbrev pub begins : List ℕ → ℕ → Option ℕ
begins starts offset = position (nat_eq offset) starts

-- the range is not empty; its places begin instructions, though end_pc may be the end of the code (JVMS 4.7.3)
abbrev pub handler_places : List ℕ → ℕ → ℕ → ℕ → ℕ → Option Places
handler_places starts end start_pc end_pc handler_pc =
    if nat_lt start_pc end_pc then places (begins starts start_pc) (begins (starts ++ end ∷ []) end_pc)
    (begins starts handler_pc) else None

-- a handler at three places, with the class that it catches, or none for any (JVMS 4.7.3)
abbrev pub handler : Places → Option (List ℕ) → Handler
handler at caught = record { from = at.0; to = at.1; entry = at.2; caught = caught }

-- a row of the exception table: its places first, then what it catches (JVMS 4.7.3)
abbrev pub read_handler : List Entry → List ℕ → ℕ → FormatReader Handler
read_handler pool starts end = do
  at ← here
  start_pc ← u2
  end_pc ← u2
  handler_pc ← u2
  found ← settle at (due bad.BadHandler (handler_places starts end start_pc end_pc handler_pc))
  caught ← item u2 (optional_class_at pool)
  give (handler found caught)

-- exception_table_length, and as many rows in the order in which they are searched (JVMS 4.7.3, 2.10)
unfoldable pub read_handlers : List Entry → List ℕ → ℕ → FormatReader (List Handler)
read_handlers pool starts end = do
  n ← u2
  many n (read_handler pool starts end)

-- ---- attributes of a Code

-- what was seen of them: rows of lines, and the frames, with whether one names a float or a double (JVMS 4.7.4, 4.7.12)
pub record CodeSeen : Type 0 where
  pub lines : List LineNumber
  pub map : Option (Bool × List FrameAt)

-- before the first attribute: no rows, no frames (JVMS 4.7.4, 4.7.12)
abbrev pub nothing_seen : CodeSeen
nothing_seen = record { lines = []; map = None }

-- whether an attribute that may stand only once was seen before (JVMS 4.7)
abbrev pub is_there : {A : Type 0} → Option A → Bool
is_there (Some x) = true
is_there None = false

-- one more LineNumberTable, its rows behind those of the ones before (JVMS 4.7.12)
abbrev pub lines_seen : CodeSeen → FormatReader CodeSeen
lines_seen seen = do
  rows ← line_number_table
  give (record seen { lines = seen.lines ++ rows })

-- the StackMapTable, read by the reader given (JVMS 4.7.4)
abbrev pub frames_seen : FormatReader (Bool × List FrameAt) → CodeSeen → FormatReader CodeSeen
frames_seen frames seen = do
  map ← frames
  give (record seen { map = Some map })

-- LineNumberTable as often as it stands, StackMapTable once (JVMS 4.7.4, 4.7.12)
abbrev pub known_of_code : FormatReader (Bool × List FrameAt) → ℕ → List ℕ → ℕ → CodeSeen
    → Option (FormatReader CodeSeen)
known_of_code frames at name n seen =
    if is_text name (codes "LineNumberTable") then Some (lines_seen seen)
    else if is_text name (codes "StackMapTable") then Some (once at (is_there seen.map) (frames_seen frames seen))
    else None

-- ---- the code

-- a code, with what is left out in it (the project's own: a code may be left out)
abbrev pub Body : Type 0
Body = Option Code × Option LeftKind

-- greater than 0 and less than 65536 (JVMS 4.7.3)
abbrev pub code_length : ℕ → Result ℕ FormatKind
code_length n = if n == 0 then Err bad.BadCode else if nat_lt n (2 ^ 16) then Ok n else Err bad.BadCode

-- each instruction with its line (JVMS 4.7.12)
abbrev pub with_lines : List LineNumber → ℕ → List Info → List Op → List Ins
with_lines rows at [] ops = []
with_lines rows at (info ∷ infos) [] = []
with_lines rows at (info ∷ infos) (o ∷ ops) = record { op = o; line = line_at rows at } ∷ with_lines rows
    (at + length (info_bytes info)) infos ops

-- a code without a StackMapTable has no frames: its implicit one is empty (JVMS 4.7.4)
abbrev pub frames_of : Option (Bool × List FrameAt) → List FrameAt
frames_of (Some map) = map.1
frames_of None = []

-- what the frames leave out: a float or a double among their types (the project's own: floats and doubles are left out)
abbrev pub left_out_of : Option (Bool × List FrameAt) → Option LeftKind
left_out_of (Some map) = if map.0 then Some left.FloatType else None
left_out_of None = None

-- the parts of a Code together, each instruction with its line, and what its frames leave out (JVMS 4.7.3)
abbrev pub code_of : ℕ → ℕ → List Info → List Op → List Handler → CodeSeen → Body
code_of max_stack max_locals infos ops handlers seen = (
  Some (record {
    max_stack = max_stack;
    max_locals = max_locals;
    ins = with_lines seen.lines 0 infos ops;
    handlers = handlers;
    frames = frames_of seen.map;
  }),
  left_out_of seen.map,
)

-- an attribute that is passed over by its length, its name not looked at (JVMS 4.7)
abbrev pub skipped_attribute : FormatReader (Unit {0})
skipped_attribute = do
  name_index ← u2
  n ← u4
  skipped ← bytes n
  give tt

-- what stands behind the instructions: of a code in which one is left out it is passed over
-- (JVMS 4.7.3; that it may be passed over is the project's own)
abbrev pub behind_code : List Entry → List VType → ℕ → ℕ → ℕ → ℕ → CodeRead → FormatReader Body
behind_code pool first max_stack max_locals from end (instructions infos) = do
  ops ← of_result (ops_of pool from infos)
  handlers ← read_handlers pool (starts_of infos) end
  seen ← counted_attributes pool
      (known_of_code (read_frames pool (starts_of infos) ops max_stack max_locals first)) nothing_seen
  give (code_of max_stack max_locals infos ops handlers seen)
behind_code pool first max_stack max_locals from end (has_left_out offset opcode) = do
  n ← u2
  handlers ← bytes (8 * n)
  m ← u2
  skipped ← many m skipped_attribute
  give (None, Some (left_out_kind opcode))

-- the contents of the Code at an offset; first are the locals of the method's initial frame (JVMS 4.7.3)
unfoldable pub read_code : List Entry → List VType → ℕ → FormatReader Body
read_code pool first attribute = do
  max_stack ← u2
  max_locals ← u2
  n ← item u4 code_length
  from ← here
  read ← part attribute n (until_end n pool from (from + n))
  behind_code pool first max_stack max_locals from n read
