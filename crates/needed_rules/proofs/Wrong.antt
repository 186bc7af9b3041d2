-- What the runs do, computed.
use Rattle.std.proofs.Common.{refl}
use Rattle.std.specs.Fmt.{digits}
use Rattle.std.specs.Int.{int_wrap}
use Rattle.jv_base.specs.Descriptors.{grown, read_field, read_method}
use Rattle.jv_base.specs.Names.{is_class_name, is_member_name, is_name_byte, is_primitive_or_void, part_after}
use Rattle.jv_base.specs.Types.{argument_words, base_text, field_text, method_text, result_text, words_of}
use Rattle.jv_base.specs.Walk.{walk}
use Rattle.class_pool.specs.Walk.{upwards, walked}
use Rattle.lib_table.specs.Library.{library}
use Rattle.needed_rules.specs.Codes.{caught_as_array, element_as_array, long_tested, new_string, null_among_longs}
use Rattle.needed_rules.specs.Codes.{other_result, otherwise, runnable_as_string, super_of_other}
use Rattle.needed_rules.specs.Rows.{GoWrong, GoesWrong}

handler_goes : GoesWrong caught_as_array
unfolding library upwards walked field_text base_text method_text result_text grown read_field read_method walk
    is_class_name is_member_name is_primitive_or_void is_name_byte part_after words_of argument_words digits int_wrap
handler_goes = refl

result_goes : GoesWrong other_result
unfolding library upwards walked field_text base_text method_text result_text grown read_field read_method walk
    is_class_name is_member_name is_primitive_or_void is_name_byte part_after words_of argument_words digits int_wrap
result_goes = refl

element_goes : GoesWrong element_as_array
unfolding library upwards walked field_text base_text method_text result_text grown read_field read_method walk
    is_class_name is_member_name is_primitive_or_void is_name_byte part_after words_of argument_words digits int_wrap
element_goes = refl

new_goes : GoesWrong new_string
unfolding library upwards walked field_text base_text method_text result_text grown read_field read_method walk
    is_class_name is_member_name is_primitive_or_void is_name_byte part_after words_of argument_words digits int_wrap
new_goes = refl

interface_goes : GoesWrong runnable_as_string
unfolding library upwards walked field_text base_text method_text result_text grown read_field read_method walk
    is_class_name is_member_name is_primitive_or_void is_name_byte part_after words_of argument_words digits int_wrap
interface_goes = refl

condition_goes : GoesWrong long_tested
unfolding library upwards walked field_text base_text method_text result_text grown read_field read_method walk
    is_class_name is_member_name is_primitive_or_void is_name_byte part_after words_of argument_words digits int_wrap
condition_goes = refl

switch_goes : GoesWrong otherwise
unfolding library upwards walked field_text base_text method_text result_text grown read_field read_method walk
    is_class_name is_member_name is_primitive_or_void is_name_byte part_after words_of argument_words digits int_wrap
switch_goes = refl

receiver_goes : GoesWrong super_of_other
unfolding library upwards walked field_text base_text method_text result_text grown read_field read_method walk
    is_class_name is_member_name is_primitive_or_void is_name_byte part_after words_of argument_words digits int_wrap
receiver_goes = refl

stored_goes : GoesWrong null_among_longs
unfolding library upwards walked field_text base_text method_text result_text grown read_field read_method walk
    is_class_name is_member_name is_primitive_or_void is_name_byte part_after words_of argument_words digits int_wrap
stored_goes = refl

pub wrong : GoWrong
wrong = record {
  handler = handler_goes;
  result = result_goes;
  element = element_goes;
  new = new_goes;
  interface = interface_goes;
  condition = condition_goes;
  switch = switch_goes;
  receiver = receiver_goes;
  stored = stored_goes;
}
