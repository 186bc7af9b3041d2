-- The rows that the reader makes, as those of the standard (JVMS 4.7.4).
use Rattle.std.specs.Prelude.{map}
use Rattle.class_model.specs.Frames.{VerificationTypeInfo, TagInfo, ObjectInfo, UninitializedInfo, StackMapFrame}
use Rattle.class_model.specs.Frames.{SameFrame, SameLocalsOneStackItem, SameLocalsOneStackItemExtended, ChopFrame}
use Rattle.class_model.specs.Frames.{SameFrameExtended, AppendFrame, FullFrame}
use Rattle.frame_read.specs.declared.row.TypeInfo.{TypeInfo}
use Rattle.frame_read.specs.declared.row.TypeInfo.TheVariants.{Tag, Object, Uninitialized}
use Rattle.frame_read.specs.declared.row.Row.{Row}
use Rattle.frame_read.specs.declared.row.Row.TheVariants as row

-- verification_type_info (only the proof of read_frames needs it)
abbrev pub info_of : TypeInfo → VerificationTypeInfo
info_of (Tag tag) = TagInfo tag
info_of (Object cpool_index) = ObjectInfo cpool_index
info_of (Uninitialized offset) = UninitializedInfo offset

-- stack_map_frame (only the proof of read_frames needs it)
abbrev pub row_of : Row → StackMapFrame
row_of (row.Same frame_type) = SameFrame frame_type
row_of (row.SameLocalsOneStackItem frame_type item) = SameLocalsOneStackItem frame_type (info_of item)
row_of (row.SameLocalsOneStackItemExtended offset_delta item) = SameLocalsOneStackItemExtended offset_delta
    (info_of item)
row_of (row.Chop frame_type offset_delta) = ChopFrame frame_type offset_delta
row_of (row.SameExtended offset_delta) = SameFrameExtended offset_delta
row_of (row.Append frame_type offset_delta locals) = AppendFrame frame_type offset_delta (map info_of locals)
row_of (row.Full offset_delta locals stack) = FullFrame offset_delta (map info_of locals) (map info_of stack)
