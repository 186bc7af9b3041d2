-- Rows of runs: stack, computed.
use Rattle.std.proofs.Common.{refl}
use Rattle.std.specs.Fmt.{digits}
use Rattle.std.specs.Int.{int_wrap}
use Rattle.jv_base.specs.Descriptors.{grown, read_field, read_method}
use Rattle.jv_base.specs.Names.{is_class_name, is_member_name, is_name_byte, is_primitive_or_void, part_after}
use Rattle.jv_base.specs.Types.{argument_words, base_text, field_text, method_text, result_text, words_of}
use Rattle.jv_base.specs.Walk.{walk}
use Rattle.lib_table.specs.Library.{library}
use Rattle.class_pool.specs.Walk.{upwards, walked}
use Rattle.run_rows.specs.Stack.{Pop2LongRow, DupX2OverLongRow, Dup2X1LongRow, IncrementsAsValuesRow, StackRows}

pop2_long_row : Pop2LongRow
unfolding library upwards walked field_text base_text method_text result_text grown read_field read_method walk
    is_class_name is_member_name is_primitive_or_void is_name_byte part_after words_of argument_words digits int_wrap
pop2_long_row = refl

dup_x2_over_long_row : DupX2OverLongRow
unfolding library upwards walked field_text base_text method_text result_text grown read_field read_method walk
    is_class_name is_member_name is_primitive_or_void is_name_byte part_after words_of argument_words digits int_wrap
dup_x2_over_long_row = refl

dup2_x1_long_row : Dup2X1LongRow
unfolding library upwards walked field_text base_text method_text result_text grown read_field read_method walk
    is_class_name is_member_name is_primitive_or_void is_name_byte part_after words_of argument_words digits int_wrap
dup2_x1_long_row = refl

increments_as_values_row : IncrementsAsValuesRow
unfolding library upwards walked field_text base_text method_text result_text grown read_field read_method walk
    is_class_name is_member_name is_primitive_or_void is_name_byte part_after words_of argument_words digits int_wrap
increments_as_values_row = refl

pub computed : StackRows
computed = (pop2_long_row, dup_x2_over_long_row, dup2_x1_long_row, increments_as_values_row)
