-- The frames that are the contents of a StackMapTable, or the first fault (JVMS 4.7.4).
use Rattle.std.specs.Prelude.{ℕ, Bool, List, length, Result, Ok, Err, ◌==◌, if◌then◌else◌}
use Rattle.jv_base.specs.Place.{Place, start}
use Rattle.format_reading.specs.declared.fault.FormatFault.{FormatFault}
use Rattle.format_reading.specs.declared.fault.FormatKind.{FormatKind}
use Rattle.format_reading.specs.declared.fault.FormatKind.TheVariants as bad
use Rattle.class_model.specs.declared.pool.Entry.{Entry}
use Rattle.class_model.specs.declared.op.Op.{Op}
use Rattle.class_model.specs.declared.frame.VType.{VType}
use Rattle.class_model.specs.declared.frame.FrameAt.{FrameAt}
use Rattle.class_model.specs.ReadingFrames.{read_frames}
use Rattle.frame_read.specs.declared.fault.FrameFault.{FrameFault}
use Rattle.frame_read.specs.declared.fault.FrameFault.TheVariants as frame
use Rattle.frame_read.specs.declared.table.StackMapTable.{StackMapTable}

-- a fault at an offset; the reading tells nothing but that the bytes end too soon, or that a row is no frame
-- (the project's own: the faults of frames alone)
abbrev pub fault_at : ℕ → FormatKind → FrameFault
fault_at offset bad.Cut = frame.Cut offset
fault_at offset kind = frame.BadFrame offset

-- a fault of the reading, as one of the frames (the project's own: the faults of frames alone)
abbrev pub frame_fault : FormatFault → FrameFault
frame_fault f = fault_at f.offset f.kind

-- the frames, where no byte stands behind their rows (JVMS 4.7)
abbrev pub whole : Result ((Bool × List FrameAt) × Place) FormatFault → Result StackMapTable FrameFault
whole (Ok x) =
    if x.1.at == length x.1.bytes then Ok (record { frames = x.0.1; names_float = x.0.0 })
    else Err (frame.Trailing x.1.at)
whole (Err f) = Err (frame_fault f)

-- the frames of a code with these instructions, which begin at these offsets; first are the locals of the initial frame
-- (JVMS 4.7.4; the first fault is the project's own)
abbrev pub frames_of : List Entry → List ℕ → List Op → ℕ → ℕ → List VType → List ℕ → Result StackMapTable FrameFault
frames_of pool starts ops max_stack max_locals first bytes =
    whole (read_frames pool starts ops max_stack max_locals first (start bytes))
