-- Rows of runs: null receivers, computed.
use Rattle.std.proofs.Common.{refl}
use Rattle.std.specs.Fmt.{digits}
use Rattle.std.specs.Int.{int_wrap}
use Rattle.jv_base.specs.Descriptors.{grown, read_field, read_method}
use Rattle.jv_base.specs.Names.{is_class_name, is_member_name, is_name_byte, is_primitive_or_void, part_after}
use Rattle.jv_base.specs.Types.{argument_words, base_text, field_text, method_text, result_text, words_of}
use Rattle.jv_base.specs.Walk.{walk}
use Rattle.lib_table.specs.Library.{library}
use Rattle.class_pool.specs.Walk.{upwards, walked}
use Rattle.run_rows.specs.NullReceivers.{PutfieldRow, GetfieldLongRow, InvokevirtualRow, InvokevirtualLibraryMethodRow}
use Rattle.run_rows.specs.NullReceivers.{InvokeinterfaceRow, RunnableRunRow, InvokespecialPrivateMethodRow}
use Rattle.run_rows.specs.NullReceivers.{NullReceiversRows}

putfield_row : PutfieldRow
unfolding library upwards walked field_text base_text method_text result_text grown read_field read_method walk
    is_class_name is_member_name is_primitive_or_void is_name_byte part_after words_of argument_words digits int_wrap
putfield_row = refl

getfield_long_row : GetfieldLongRow
unfolding library upwards walked field_text base_text method_text result_text grown read_field read_method walk
    is_class_name is_member_name is_primitive_or_void is_name_byte part_after words_of argument_words digits int_wrap
getfield_long_row = refl

invokevirtual_row : InvokevirtualRow
unfolding library upwards walked field_text base_text method_text result_text grown read_field read_method walk
    is_class_name is_member_name is_primitive_or_void is_name_byte part_after words_of argument_words digits int_wrap
invokevirtual_row = refl

invokevirtual_library_method_row : InvokevirtualLibraryMethodRow
unfolding library upwards walked field_text base_text method_text result_text grown read_field read_method walk
    is_class_name is_member_name is_primitive_or_void is_name_byte part_after words_of argument_words digits int_wrap
invokevirtual_library_method_row = refl

invokeinterface_row : InvokeinterfaceRow
unfolding library upwards walked field_text base_text method_text result_text grown read_field read_method walk
    is_class_name is_member_name is_primitive_or_void is_name_byte part_after words_of argument_words digits int_wrap
invokeinterface_row = refl

runnable_run_row : RunnableRunRow
unfolding library upwards walked field_text base_text method_text result_text grown read_field read_method walk
    is_class_name is_member_name is_primitive_or_void is_name_byte part_after words_of argument_words digits int_wrap
runnable_run_row = refl

invokespecial_private_method_row : InvokespecialPrivateMethodRow
unfolding library upwards walked field_text base_text method_text result_text grown read_field read_method walk
    is_class_name is_member_name is_primitive_or_void is_name_byte part_after words_of argument_words digits int_wrap
invokespecial_private_method_row = refl

pub computed : NullReceiversRows
computed = (
  putfield_row,
  getfield_long_row,
  invokevirtual_row,
  invokevirtual_library_method_row,
  invokeinterface_row,
  runnable_run_row,
  invokespecial_private_method_row,
)
