-- Rows of runs: initialisers that fail, computed.
use Rattle.std.proofs.Common.{refl}
use Rattle.std.specs.Fmt.{digits}
use Rattle.std.specs.Int.{int_wrap}
use Rattle.jv_base.specs.Descriptors.{grown, read_field, read_method}
use Rattle.jv_base.specs.Names.{is_class_name, is_member_name, is_name_byte, is_primitive_or_void, part_after}
use Rattle.jv_base.specs.Types.{argument_words, base_text, field_text, method_text, result_text, words_of}
use Rattle.jv_base.specs.Walk.{walk}
use Rattle.lib_table.specs.Library.{library}
use Rattle.class_pool.specs.Walk.{upwards, walked}
use Rattle.run_rows.specs.FailedInitialisation.{FirstAndLaterUsesRow, UncaughtRow, ThrowableThatIsNeitherRow}
use Rattle.run_rows.specs.FailedInitialisation.{StaticsOfAFailedClassRow, FailedInitialisationRows}

first_and_later_uses_row : FirstAndLaterUsesRow
unfolding library upwards walked field_text base_text method_text result_text grown read_field read_method walk
    is_class_name is_member_name is_primitive_or_void is_name_byte part_after words_of argument_words digits int_wrap
first_and_later_uses_row = refl

uncaught_row : UncaughtRow
unfolding library upwards walked field_text base_text method_text result_text grown read_field read_method walk
    is_class_name is_member_name is_primitive_or_void is_name_byte part_after words_of argument_words digits int_wrap
uncaught_row = refl

throwable_that_is_neither_row : ThrowableThatIsNeitherRow
unfolding library upwards walked field_text base_text method_text result_text grown read_field read_method walk
    is_class_name is_member_name is_primitive_or_void is_name_byte part_after words_of argument_words digits int_wrap
throwable_that_is_neither_row = refl

statics_of_a_failed_class_row : StaticsOfAFailedClassRow
unfolding library upwards walked field_text base_text method_text result_text grown read_field read_method walk
    is_class_name is_member_name is_primitive_or_void is_name_byte part_after words_of argument_words digits int_wrap
statics_of_a_failed_class_row = refl

pub computed : FailedInitialisationRows
computed = (first_and_later_uses_row, uncaught_row, throwable_that_is_neither_row, statics_of_a_failed_class_row)
