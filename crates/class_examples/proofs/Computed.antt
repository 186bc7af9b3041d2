-- The definitions computed for files that javac made.
use Rattle.std.proofs.Common.{refl}
use Rattle.jv_base.specs.Utf16.{units_of}
use Rattle.std.specs.Prelude.{⊤}
use Rattle.std.specs.Str.{chars}
use Rattle.class_model.specs.CanonicalPool.{filled}
use Rattle.class_model.specs.CanonicalCode.{places, code_bytes}
use Rattle.class_model.specs.CanonicalClass.{pool_of, layout}
use Rattle.class_model.specs.WriteLimits.{limits, class_written}
use Rattle.jv_base.specs.Mutf8.{unit_bytes, mutf8}
use Rattle.jv_base.specs.Names.{part_after, is_primitive_or_void, is_name_byte, is_member_name, is_method_name}
use Rattle.jv_base.specs.Names.{is_class_name}
use Rattle.jv_base.specs.Walk.{walk}
use Rattle.jv_base.specs.Types.{base_text, field_text, result_text, method_text, words_of, argument_words}
use Rattle.jv_base.specs.Decoding.{byte_taken, read_mutf8}
use Rattle.jv_base.specs.Descriptors.{grown, read_field, read_method}
use Rattle.std.specs.Char.Utf16.{utf16_chars}
use Rattle.format_reading.specs.Reader.{u1, u2, u4, bytes, lead, bind, give, here, of_result, settle, part, many}
use Rattle.class_model.specs.Lookups.{text_of, names_right, class_at, optional_class_at, type_at, fieldref_at}
use Rattle.class_model.specs.Lookups.{methodref_at, interface_methodref_at}
use Rattle.class_model.specs.ReadingPool.{read_pool, slots, slot, read_entry, all_name_right}
use Rattle.class_model.specs.InstructionMeaning.{op_of}
use Rattle.class_model.specs.ReadingCode.{match_offsets, read_instruction, until_end, ops_from}
use Rattle.class_model.specs.ReadingFrames.{read_type, read_row, read_frame, read_frames_behind, read_frames}
use Rattle.class_model.specs.ReadingAttributes.{attributes, exceptions, line_number_table}
use Rattle.class_model.specs.ReadingCodeAttribute.{read_handlers, read_code}
use Rattle.class_model.specs.MemberTypes.{field_type_at, method_type_at}
use Rattle.class_model.specs.ReadingMembers.{read_field_info, read_fields, read_method_info, read_methods}
use Rattle.class_model.specs.ReadingClass.{read_head, read_all_fields, read_all_methods, read_interfaces}
use Rattle.class_model.specs.ReadingClass.{read_class_file, class_read}
use Rattle.class_examples.specs.Compiled.{IsCut, IsBadMagic, IsBadVersion, IsBadTag, IsBadUtf8, IsBadIndex, IsBadName}
use Rattle.class_examples.specs.Compiled.{IsBadDescriptor, IsBadFlags, IsBadAttribute, IsBadCode, IsBadOpcode}
use Rattle.class_examples.specs.Compiled.{IsBadOperand, IsBadTarget, IsBadHandler, IsBadFrame, IsRepeated, IsTrailing}
use Rattle.class_examples.specs.Compiled.{LeavesFlag, LeavesConstant, LeavesOpcode, LeavesFloatType, IsRespelled}

-- what an example of reading computes with
reading : ⊤
unfolding lib.Utf8.encode part_after is_primitive_or_void is_name_byte is_member_name is_method_name is_class_name walk
    base_text field_text result_text method_text words_of argument_words byte_taken read_mutf8 grown read_field
    read_method utf16_chars u1 u2 u4 bytes lead bind give here of_result settle part many text_of names_right class_at
    optional_class_at type_at fieldref_at methodref_at interface_methodref_at read_pool slots slot read_entry
    all_name_right op_of match_offsets read_instruction until_end ops_from read_type read_row read_frame
    read_frames_behind read_frames attributes exceptions line_number_table read_handlers read_code field_type_at
    method_type_at read_field_info read_fields read_method_info read_methods read_head read_all_fields read_all_methods
    read_interfaces read_class_file class_read
reading = tt

-- what an example of writing computes with
writing : ⊤
unfolding unit_bytes mutf8 units_of chars filled places code_bytes pool_of layout limits class_written
writing = tt

pub cut : IsCut
unfolding reading
cut = refl

pub bad_magic : IsBadMagic
unfolding reading
bad_magic = refl

pub bad_version : IsBadVersion
unfolding reading
bad_version = refl

pub bad_tag : IsBadTag
unfolding reading
bad_tag = refl

pub bad_utf8 : IsBadUtf8
unfolding reading
bad_utf8 = refl

pub bad_index : IsBadIndex
unfolding reading
bad_index = refl

pub bad_name : IsBadName
unfolding reading
bad_name = refl

pub bad_descriptor : IsBadDescriptor
unfolding reading
bad_descriptor = refl

pub bad_flags : IsBadFlags
unfolding reading
bad_flags = refl

pub bad_attribute : IsBadAttribute
unfolding reading
bad_attribute = refl

pub bad_code : IsBadCode
unfolding reading
bad_code = refl

pub bad_opcode : IsBadOpcode
unfolding reading
bad_opcode = refl

pub bad_operand : IsBadOperand
unfolding reading
bad_operand = refl

pub bad_target : IsBadTarget
unfolding reading
bad_target = refl

pub bad_handler : IsBadHandler
unfolding reading
bad_handler = refl

pub bad_frame : IsBadFrame
unfolding reading
bad_frame = refl

pub repeated : IsRepeated
unfolding reading
repeated = refl

pub trailing : IsTrailing
unfolding reading
trailing = refl

pub left_out_flag : LeavesFlag
unfolding reading
left_out_flag = refl

pub left_out_constant : LeavesConstant
unfolding reading
left_out_constant = refl

pub left_out_opcode : LeavesOpcode
unfolding reading
left_out_opcode = refl

pub left_out_float_type : LeavesFloatType
unfolding reading
left_out_float_type = refl

pub respelled : IsRespelled
unfolding reading writing
respelled = refl
