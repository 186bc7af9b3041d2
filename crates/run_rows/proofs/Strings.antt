-- Rows of runs: strings, computed.
use Rattle.std.proofs.Common.{refl}
use Rattle.std.specs.Fmt.{digits}
use Rattle.std.specs.Int.{int_wrap}
use Rattle.jv_base.specs.Descriptors.{grown, read_field, read_method}
use Rattle.jv_base.specs.Names.{is_class_name, is_member_name, is_name_byte, is_primitive_or_void, part_after}
use Rattle.jv_base.specs.Types.{argument_words, base_text, field_text, method_text, result_text, words_of}
use Rattle.jv_base.specs.Walk.{walk}
use Rattle.lib_table.specs.Library.{library}
use Rattle.class_pool.specs.Walk.{upwards, walked}
use Rattle.run_rows.specs.Strings.{EqualLiteralsOneRow, SubstringOneRow, SubstringTwoRow, CompareToRow, EqualsRow}
use Rattle.run_rows.specs.Strings.{ValueOfRow, CallsOnNullRow, ExceptionsCaughtBySuperclassesRow, StringsRows}

equal_literals_one_row : EqualLiteralsOneRow
unfolding library upwards walked field_text base_text method_text result_text grown read_field read_method walk
    is_class_name is_member_name is_primitive_or_void is_name_byte part_after words_of argument_words digits int_wrap
equal_literals_one_row = refl

substring_one_row : SubstringOneRow
unfolding library upwards walked field_text base_text method_text result_text grown read_field read_method walk
    is_class_name is_member_name is_primitive_or_void is_name_byte part_after words_of argument_words digits int_wrap
substring_one_row = refl

substring_two_row : SubstringTwoRow
unfolding library upwards walked field_text base_text method_text result_text grown read_field read_method walk
    is_class_name is_member_name is_primitive_or_void is_name_byte part_after words_of argument_words digits int_wrap
substring_two_row = refl

compare_to_row : CompareToRow
unfolding library upwards walked field_text base_text method_text result_text grown read_field read_method walk
    is_class_name is_member_name is_primitive_or_void is_name_byte part_after words_of argument_words digits int_wrap
compare_to_row = refl

equals_row : EqualsRow
unfolding library upwards walked field_text base_text method_text result_text grown read_field read_method walk
    is_class_name is_member_name is_primitive_or_void is_name_byte part_after words_of argument_words digits int_wrap
equals_row = refl

value_of_row : ValueOfRow
unfolding library upwards walked field_text base_text method_text result_text grown read_field read_method walk
    is_class_name is_member_name is_primitive_or_void is_name_byte part_after words_of argument_words digits int_wrap
value_of_row = refl

calls_on_null_row : CallsOnNullRow
unfolding library upwards walked field_text base_text method_text result_text grown read_field read_method walk
    is_class_name is_member_name is_primitive_or_void is_name_byte part_after words_of argument_words digits int_wrap
calls_on_null_row = refl

exceptions_caught_by_superclasses_row : ExceptionsCaughtBySuperclassesRow
unfolding library upwards walked field_text base_text method_text result_text grown read_field read_method walk
    is_class_name is_member_name is_primitive_or_void is_name_byte part_after words_of argument_words digits int_wrap
exceptions_caught_by_superclasses_row = refl

pub computed : StringsRows
computed = (
  equal_literals_one_row,
  substring_one_row,
  substring_two_row,
  compare_to_row,
  equals_row,
  value_of_row,
  calls_on_null_row,
  exceptions_caught_by_superclasses_row,
)
