-- What stands behind the instructions of a Code (JVMS 4.7.3; only the proof of read_class needs it).
use Rattle.std.specs.Prelude.{ℕ, Bool, List, codes, Option, Some, None, if◌then◌else◌}
use Rattle.jv_base.specs.Names.{is_text}
use Rattle.format_reading.specs.Reader.{FormatReader, give, ◌>>=◌}
use Rattle.class_model.specs.declared.pool.Entry.{Entry}
use Rattle.class_model.specs.declared.op.Op.{Op}
use Rattle.class_model.specs.declared.code.Handler.{Handler}
use Rattle.class_model.specs.declared.frame.VType.{VType}
use Rattle.class_model.specs.declared.frame.FrameAt.{FrameAt}
use Rattle.class_model.specs.ReadingAttributes.{counted_attributes, once}
use Rattle.class_model.specs.ReadingFrames.{read_frames}
use Rattle.class_model.specs.ReadingCodeAttribute.{Body, CodeSeen, nothing_seen, is_there, lines_seen, frames_seen}
use Rattle.class_model.specs.ReadingCodeAttribute.{known_of_code, read_handlers, frames_of, left_out_of}
use Rattle.class_read.specs.bodies.Lines.{lined}
use Rattle.class_read.specs.declared.code_attributes.CodeAttribute.{CodeAttribute}
use Rattle.class_read.specs.declared.code_attributes.CodeAttribute.TheVariants as known
use Rattle.frame_read.specs.declared.reader.FrameReader.{FrameReader}

-- ---- attributes

-- the attribute of a name, if it is read
abbrev pub code_attribute : List ℕ → Option CodeAttribute
code_attribute name =
    if is_text name (codes "LineNumberTable") then Some known.LineNumberTable
    else if is_text name (codes "StackMapTable") then Some known.StackMapTable
    else None

-- its contents, behind what was seen before; the frames are read by the reader given
abbrev pub code_contents : FormatReader (Bool × List FrameAt) → ℕ → CodeSeen → CodeAttribute → FormatReader CodeSeen
code_contents frames at seen known.LineNumberTable = lines_seen seen
code_contents frames at seen known.StackMapTable = once at (is_there seen.map) (frames_seen frames seen)

-- the frames of the code that a reader of frames knows
abbrev pub frames_by : FrameReader → FormatReader (Bool × List FrameAt)
frames_by r = read_frames r.pool.now r.starts.now r.ops.now r.max_stack r.max_locals r.first.now.locals

-- ---- all that stands behind the instructions

-- the parts of a Code together, of instructions that begin at these offsets, and what its frames leave out
abbrev pub code_with : ℕ → ℕ → List ℕ → List Op → List Handler → CodeSeen → Body
code_with max_stack max_locals starts ops handlers seen = (
  Some (record {
    max_stack = max_stack;
    max_locals = max_locals;
    ins = lined seen.lines starts ops;
    handlers = handlers;
    frames = frames_of seen.map;
  }),
  left_out_of seen.map,
)

-- the exception table and the attributes of a code whose instructions begin at these offsets and whose last ends at end
unfoldable pub behind_instructions : List Entry → List VType → ℕ → ℕ → ℕ → List ℕ → List Op → FormatReader Body
behind_instructions pool first max_stack max_locals end starts ops = do
  handlers ← read_handlers pool starts end
  seen ← counted_attributes pool (known_of_code (read_frames pool starts ops max_stack max_locals first)) nothing_seen
  give (code_with max_stack max_locals starts ops handlers seen)
