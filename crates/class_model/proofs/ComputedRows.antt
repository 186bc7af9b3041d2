-- What the definitions give for a few class files, computed.
use Rattle.std.proofs.Common.{refl}
use Rattle.jv_base.specs.Utf16.{units_of}
use Rattle.std.specs.Str.{chars}
use Rattle.class_model.specs.CanonicalPool.{filled}
use Rattle.class_model.specs.CanonicalCode.{places, code_bytes}
use Rattle.class_model.specs.CanonicalClass.{pool_of, layout}
use Rattle.class_model.specs.WriteLimits.{limits, class_written}
use Rattle.class_model.specs.rows.Rows.{IsRead, CodeLimits, TIsRead, IsWritten, IsCutAnywhere, IsTrailed, HeadFaults}
use Rattle.class_model.specs.rows.Rows.{CodeFaults, CodeLeftOut, MemberFaults, PoolFaults, ClassLeftOut}
use Rattle.class_model.specs.rows.Rows.{MainIsCanonical}
use Rattle.class_model.specs.rows.Rows.{CompiledAreRespelled, UnknownOpcodes, PlainIsCanonical, Padding}
use Rattle.jv_base.specs.Mutf8.{unit_bytes, mutf8}
use Rattle.jv_base.specs.Names.{part_after, is_primitive_or_void, is_name_byte, is_member_name, is_method_name}
use Rattle.jv_base.specs.Names.{is_class_name}
use Rattle.jv_base.specs.Walk.{walk}
use Rattle.jv_base.specs.Types.{base_text, field_text, result_text, method_text, words_of, argument_words}
use Rattle.jv_base.specs.Decoding.{byte_taken, read_mutf8}
use Rattle.jv_base.specs.Descriptors.{grown, read_field, read_method}
use Rattle.std.specs.Char.Utf16.{utf16_chars}
use Rattle.format_reading.specs.Reader.{u1, u2, u4, bytes, lead, bind, give, here, of_result, settle, part, many}
use Rattle.class_model.specs.Lookups.{text_of, names_right, class_at, optional_class_at, type_at, fieldref_at}
use Rattle.class_model.specs.Lookups.{methodref_at, interface_methodref_at}
use Rattle.class_model.specs.ReadingPool.{read_pool, slots, slot, read_entry, all_name_right}
use Rattle.class_model.specs.InstructionMeaning.{op_of}
use Rattle.class_model.specs.ReadingCode.{match_offsets, read_instruction, until_end, ops_from}
use Rattle.class_model.specs.ReadingFrames.{read_type, read_row, read_frame, read_frames_behind, read_frames}
use Rattle.class_model.specs.ReadingAttributes.{attributes, exceptions, line_number_table}
use Rattle.class_model.specs.ReadingCodeAttribute.{read_handlers, read_code}
use Rattle.class_model.specs.MemberTypes.{field_type_at, method_type_at}
use Rattle.class_model.specs.ReadingMembers.{read_field_info, read_fields, read_method_info, read_methods}
use Rattle.class_model.specs.ReadingClass.{read_head, read_all_fields, read_all_methods, read_interfaces}
use Rattle.class_model.specs.ReadingClass.{read_class_file, class_read}

pub read : IsRead
unfolding lib.Utf8.encode part_after is_primitive_or_void is_name_byte is_member_name is_method_name is_class_name walk
    base_text field_text result_text method_text words_of argument_words byte_taken read_mutf8 grown read_field
    read_method utf16_chars u1 u2 u4 bytes lead bind give here of_result settle part many text_of names_right class_at
    optional_class_at type_at fieldref_at methodref_at interface_methodref_at read_pool slots slot read_entry
    all_name_right op_of match_offsets read_instruction until_end ops_from read_type read_row read_frame
    read_frames_behind read_frames attributes exceptions line_number_table read_handlers read_code field_type_at
    method_type_at read_field_info read_fields read_method_info read_methods read_head read_all_fields read_all_methods
    read_interfaces read_class_file class_read
read = refl

pub t_read : TIsRead
unfolding lib.Utf8.encode part_after is_primitive_or_void is_name_byte is_member_name is_method_name is_class_name walk
    base_text field_text result_text method_text words_of argument_words byte_taken read_mutf8 grown read_field
    read_method utf16_chars u1 u2 u4 bytes lead bind give here of_result settle part many text_of names_right class_at
    optional_class_at type_at fieldref_at methodref_at interface_methodref_at read_pool slots slot read_entry
    all_name_right op_of match_offsets read_instruction until_end ops_from read_type read_row read_frame
    read_frames_behind read_frames attributes exceptions line_number_table read_handlers read_code field_type_at
    method_type_at read_field_info read_fields read_method_info read_methods read_head read_all_fields read_all_methods
    read_interfaces read_class_file class_read
t_read = refl

pub written : IsWritten
unfolding lib.Utf8.encode part_after is_primitive_or_void is_name_byte is_member_name is_method_name is_class_name walk
    base_text field_text result_text method_text words_of argument_words byte_taken read_mutf8 grown read_field
    read_method utf16_chars u1 u2 u4 bytes lead bind give here of_result settle part many text_of names_right class_at
    optional_class_at type_at fieldref_at methodref_at interface_methodref_at read_pool slots slot read_entry
    all_name_right op_of match_offsets read_instruction until_end ops_from read_type read_row read_frame
    read_frames_behind read_frames attributes exceptions line_number_table read_handlers read_code field_type_at
    method_type_at read_field_info read_fields read_method_info read_methods read_head read_all_fields read_all_methods
    read_interfaces read_class_file class_read unit_bytes mutf8 units_of chars filled places code_bytes pool_of layout
    limits class_written
written = refl

pub cut_anywhere : IsCutAnywhere
unfolding lib.Utf8.encode part_after is_primitive_or_void is_name_byte is_member_name is_method_name is_class_name walk
    base_text field_text result_text method_text words_of argument_words byte_taken read_mutf8 grown read_field
    read_method utf16_chars u1 u2 u4 bytes lead bind give here of_result settle part many text_of names_right class_at
    optional_class_at type_at fieldref_at methodref_at interface_methodref_at read_pool slots slot read_entry
    all_name_right op_of match_offsets read_instruction until_end ops_from read_type read_row read_frame
    read_frames_behind read_frames attributes exceptions line_number_table read_handlers read_code field_type_at
    method_type_at read_field_info read_fields read_method_info read_methods read_head read_all_fields read_all_methods
    read_interfaces read_class_file class_read
cut_anywhere = refl

pub trailed : IsTrailed
unfolding lib.Utf8.encode part_after is_primitive_or_void is_name_byte is_member_name is_method_name is_class_name walk
    base_text field_text result_text method_text words_of argument_words byte_taken read_mutf8 grown read_field
    read_method utf16_chars u1 u2 u4 bytes lead bind give here of_result settle part many text_of names_right class_at
    optional_class_at type_at fieldref_at methodref_at interface_methodref_at read_pool slots slot read_entry
    all_name_right op_of match_offsets read_instruction until_end ops_from read_type read_row read_frame
    read_frames_behind read_frames attributes exceptions line_number_table read_handlers read_code field_type_at
    method_type_at read_field_info read_fields read_method_info read_methods read_head read_all_fields read_all_methods
    read_interfaces read_class_file class_read
trailed = refl

pub head_faults : HeadFaults
unfolding lib.Utf8.encode part_after is_primitive_or_void is_name_byte is_member_name is_method_name is_class_name walk
    base_text field_text result_text method_text words_of argument_words byte_taken read_mutf8 grown read_field
    read_method utf16_chars u1 u2 u4 bytes lead bind give here of_result settle part many text_of names_right class_at
    optional_class_at type_at fieldref_at methodref_at interface_methodref_at read_pool slots slot read_entry
    all_name_right op_of match_offsets read_instruction until_end ops_from read_type read_row read_frame
    read_frames_behind read_frames attributes exceptions line_number_table read_handlers read_code field_type_at
    method_type_at read_field_info read_fields read_method_info read_methods read_head read_all_fields read_all_methods
    read_interfaces read_class_file class_read
head_faults = (refl, refl, refl, refl, refl, refl, refl, refl, refl)

pub code_faults : CodeFaults
unfolding lib.Utf8.encode part_after is_primitive_or_void is_name_byte is_member_name is_method_name is_class_name walk
    base_text field_text result_text method_text words_of argument_words byte_taken read_mutf8 grown read_field
    read_method utf16_chars u1 u2 u4 bytes lead bind give here of_result settle part many text_of names_right class_at
    optional_class_at type_at fieldref_at methodref_at interface_methodref_at read_pool slots slot read_entry
    all_name_right op_of match_offsets read_instruction until_end ops_from read_type read_row read_frame
    read_frames_behind read_frames attributes exceptions line_number_table read_handlers read_code field_type_at
    method_type_at read_field_info read_fields read_method_info read_methods read_head read_all_fields read_all_methods
    read_interfaces read_class_file class_read
code_faults = (refl, refl, refl, refl, refl, refl, refl, refl, refl, refl, refl, refl, refl, refl, refl, refl)

pub code_left_out : CodeLeftOut
unfolding lib.Utf8.encode part_after is_primitive_or_void is_name_byte is_member_name is_method_name is_class_name walk
    base_text field_text result_text method_text words_of argument_words byte_taken read_mutf8 grown read_field
    read_method utf16_chars u1 u2 u4 bytes lead bind give here of_result settle part many text_of names_right class_at
    optional_class_at type_at fieldref_at methodref_at interface_methodref_at read_pool slots slot read_entry
    all_name_right op_of match_offsets read_instruction until_end ops_from read_type read_row read_frame
    read_frames_behind read_frames attributes exceptions line_number_table read_handlers read_code field_type_at
    method_type_at read_field_info read_fields read_method_info read_methods read_head read_all_fields read_all_methods
    read_interfaces read_class_file class_read
code_left_out = (refl, refl, refl)

pub member_faults : MemberFaults
unfolding lib.Utf8.encode part_after is_primitive_or_void is_name_byte is_member_name is_method_name is_class_name walk
    base_text field_text result_text method_text words_of argument_words byte_taken read_mutf8 grown read_field
    read_method utf16_chars u1 u2 u4 bytes lead bind give here of_result settle part many text_of names_right class_at
    optional_class_at type_at fieldref_at methodref_at interface_methodref_at read_pool slots slot read_entry
    all_name_right op_of match_offsets read_instruction until_end ops_from read_type read_row read_frame
    read_frames_behind read_frames attributes exceptions line_number_table read_handlers read_code field_type_at
    method_type_at read_field_info read_fields read_method_info read_methods read_head read_all_fields read_all_methods
    read_interfaces read_class_file class_read
member_faults = (refl, refl, refl, refl, refl, refl, refl, refl, refl, refl)

pub pool_faults : PoolFaults
unfolding lib.Utf8.encode part_after is_primitive_or_void is_name_byte is_member_name is_method_name is_class_name walk
    base_text field_text result_text method_text words_of argument_words byte_taken read_mutf8 grown read_field
    read_method utf16_chars u1 u2 u4 bytes lead bind give here of_result settle part many text_of names_right class_at
    optional_class_at type_at fieldref_at methodref_at interface_methodref_at read_pool slots slot read_entry
    all_name_right op_of match_offsets read_instruction until_end ops_from read_type read_row read_frame
    read_frames_behind read_frames attributes exceptions line_number_table read_handlers read_code field_type_at
    method_type_at read_field_info read_fields read_method_info read_methods read_head read_all_fields read_all_methods
    read_interfaces read_class_file class_read
pool_faults = (refl, refl, refl, refl, refl, refl)

pub class_left_out : ClassLeftOut
unfolding lib.Utf8.encode part_after is_primitive_or_void is_name_byte is_member_name is_method_name is_class_name walk
    base_text field_text result_text method_text words_of argument_words byte_taken read_mutf8 grown read_field
    read_method utf16_chars u1 u2 u4 bytes lead bind give here of_result settle part many text_of names_right class_at
    optional_class_at type_at fieldref_at methodref_at interface_methodref_at read_pool slots slot read_entry
    all_name_right op_of match_offsets read_instruction until_end ops_from read_type read_row read_frame
    read_frames_behind read_frames attributes exceptions line_number_table read_handlers read_code field_type_at
    method_type_at read_field_info read_fields read_method_info read_methods read_head read_all_fields read_all_methods
    read_interfaces read_class_file class_read
class_left_out = (refl, refl, refl)

pub main_is_canonical : MainIsCanonical
unfolding lib.Utf8.encode part_after is_primitive_or_void is_name_byte is_member_name is_method_name is_class_name walk
    base_text field_text result_text method_text words_of argument_words byte_taken read_mutf8 grown read_field
    read_method utf16_chars u1 u2 u4 bytes lead bind give here of_result settle part many text_of names_right class_at
    optional_class_at type_at fieldref_at methodref_at interface_methodref_at read_pool slots slot read_entry
    all_name_right op_of match_offsets read_instruction until_end ops_from read_type read_row read_frame
    read_frames_behind read_frames attributes exceptions line_number_table read_handlers read_code field_type_at
    method_type_at read_field_info read_fields read_method_info read_methods read_head read_all_fields read_all_methods
    read_interfaces read_class_file class_read unit_bytes mutf8 units_of chars filled places code_bytes pool_of layout
    limits class_written
main_is_canonical = (refl, refl)

pub compiled_are_respelled : CompiledAreRespelled
unfolding lib.Utf8.encode part_after is_primitive_or_void is_name_byte is_member_name is_method_name is_class_name walk
    base_text field_text result_text method_text words_of argument_words byte_taken read_mutf8 grown read_field
    read_method utf16_chars u1 u2 u4 bytes lead bind give here of_result settle part many text_of names_right class_at
    optional_class_at type_at fieldref_at methodref_at interface_methodref_at read_pool slots slot read_entry
    all_name_right op_of match_offsets read_instruction until_end ops_from read_type read_row read_frame
    read_frames_behind read_frames attributes exceptions line_number_table read_handlers read_code field_type_at
    method_type_at read_field_info read_fields read_method_info read_methods read_head read_all_fields read_all_methods
    read_interfaces read_class_file class_read unit_bytes mutf8 units_of chars filled places code_bytes pool_of layout
    limits class_written
compiled_are_respelled = (refl, refl)

pub unknown_opcodes : UnknownOpcodes
unknown_opcodes = refl

pub plain_is_canonical : PlainIsCanonical
plain_is_canonical = refl

pub padding : Padding
padding = refl

pub code_limits : CodeLimits
unfolding places code_bytes
code_limits = (refl, refl, refl)
