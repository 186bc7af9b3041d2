-- What the reader of frames keeps between rows, as the definitions have it (JVMS 4.7.4).
use Rattle.std.specs.Prelude.{Bool, List}
use Rattle.class_model.specs.declared.frame.FrameAt.{FrameAt}
use Rattle.frame_read.specs.declared.table.StackMapTable.{StackMapTable}

-- whether a row names a float or a double, and the frames (JVMS 4.7.4; that floats are noted is the project's own)
abbrev pub table_of : StackMapTable → Bool × List FrameAt
table_of t = (t.names_float, t.frames)
