-- Rows of runs: handlers, computed.
use Rattle.std.proofs.Common.{refl}
use Rattle.std.specs.Fmt.{digits}
use Rattle.std.specs.Int.{int_wrap}
use Rattle.jv_base.specs.Descriptors.{grown, read_field, read_method}
use Rattle.jv_base.specs.Names.{is_class_name, is_member_name, is_name_byte, is_primitive_or_void, part_after}
use Rattle.jv_base.specs.Types.{argument_words, base_text, field_text, method_text, result_text, words_of}
use Rattle.jv_base.specs.Walk.{walk}
use Rattle.lib_table.specs.Library.{library}
use Rattle.class_pool.specs.Walk.{upwards, walked}
use Rattle.run_rows.specs.Handlers.{NestedAndThrownAgainRow, HandlerCoversItselfRow, ExceptionInAHandlerRow}
use Rattle.run_rows.specs.Handlers.{AthrowOfWhatWasCaughtRow, HandlerBeginsThereRow, HandlerEndsThereRow, HandlersRows}

nested_and_thrown_again_row : NestedAndThrownAgainRow
unfolding library upwards walked field_text base_text method_text result_text grown read_field read_method walk
    is_class_name is_member_name is_primitive_or_void is_name_byte part_after words_of argument_words digits int_wrap
nested_and_thrown_again_row = refl

handler_covers_itself_row : HandlerCoversItselfRow
unfolding library upwards walked field_text base_text method_text result_text grown read_field read_method walk
    is_class_name is_member_name is_primitive_or_void is_name_byte part_after words_of argument_words digits int_wrap
handler_covers_itself_row = refl

exception_in_a_handler_row : ExceptionInAHandlerRow
unfolding library upwards walked field_text base_text method_text result_text grown read_field read_method walk
    is_class_name is_member_name is_primitive_or_void is_name_byte part_after words_of argument_words digits int_wrap
exception_in_a_handler_row = refl

athrow_of_what_was_caught_row : AthrowOfWhatWasCaughtRow
unfolding library upwards walked field_text base_text method_text result_text grown read_field read_method walk
    is_class_name is_member_name is_primitive_or_void is_name_byte part_after words_of argument_words digits int_wrap
athrow_of_what_was_caught_row = refl

handler_ends_there_row : HandlerEndsThereRow
unfolding library upwards walked field_text base_text method_text result_text grown read_field read_method walk
    is_class_name is_member_name is_primitive_or_void is_name_byte part_after words_of argument_words digits int_wrap
handler_ends_there_row = refl

handler_begins_there_row : HandlerBeginsThereRow
unfolding library upwards walked field_text base_text method_text result_text grown read_field read_method walk
    is_class_name is_member_name is_primitive_or_void is_name_byte part_after words_of argument_words digits int_wrap
handler_begins_there_row = refl

pub computed : HandlersRows
computed = (
  nested_and_thrown_again_row,
  handler_covers_itself_row,
  exception_in_a_handler_row,
  athrow_of_what_was_caught_row,
  handler_ends_there_row,
  handler_begins_there_row,
)
