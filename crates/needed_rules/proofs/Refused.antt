-- What the type checker says, computed.
use Rattle.std.proofs.Common.{◌≡◌, ℕ, List, Some, Err, refl, slice_get}
use Rattle.jv_base.specs.Descriptors.{grown, read_field, read_method}
use Rattle.jv_base.specs.Names.{is_class_name, is_member_name, is_name_byte, is_primitive_or_void, part_after}
use Rattle.jv_base.specs.Types.{argument_words, base_text, field_text, method_text, result_text, words_of}
use Rattle.jv_base.specs.Walk.{walk}
use Rattle.class_model.specs.declared.class.Class.{Class}
use Rattle.class_model.specs.declared.class.Method.{Method}
use Rattle.class_model.specs.declared.code.Code.{Code}
use Rattle.class_pool.specs.Walk.{upwards, walked as went}
use Rattle.lib_table.specs.Library.{library}
use Rattle.type_verifier.specs.Assignable.{is_assignable, is_java_assignable}
use Rattle.type_verifier.specs.Rules.{rule_of}
use Rattle.type_verifier.specs.Verified.{environment}
use Rattle.type_verifier.specs.bodies.Walked.{code_checked, walked}
use Rattle.type_verifier.specs.declared.fault.TypeKind.{TypeKind}
use Rattle.type_verifier.specs.declared.fault.TypeKind.TheVariants.{Handler, Local, Mismatch, Operand}
use Rattle.type_verifier.specs.declared.fault.TypeKind.TheVariants.{Protected, Uninit}
use Rattle.type_verifier.proofs.TypedLaw.{first_where_no}
use Rattle.needed_rules.specs.Codes.{caught_as_array, element_as_array, left_early, long_tested, new_string}
use Rattle.needed_rules.specs.Codes.{null_among_longs, other_result, otherwise, over_long, protected_field}
use Rattle.needed_rules.specs.Codes.{runnable_as_string, super_of_other}
use Rattle.needed_rules.specs.Rows.{AreRefused, IsRefused}

-- what going over a code tells is its first fault
told : (classes : List Class) (own number index : ℕ) (kind : TypeKind) (c : Class) → slice_get classes own ≡ Some c
    → (m : Method) → slice_get c.methods number ≡ Some m → (code : Code) → m.code ≡ Some code
    → code_checked (environment classes own c number m code)
    ≡ Err (record { class = own; method = number; index = index; kind = kind })
    → IsRefused classes own number index kind
told classes own number index kind c at m there code has e =
    (c, at, m, there, code, has, first_where_no (environment classes own c number m code) _ e)

store_is : IsRefused over_long 0 0 4 Local
unfolding library upwards went field_text base_text method_text result_text grown read_field read_method walk
    is_class_name is_member_name is_primitive_or_void is_name_byte part_after words_of argument_words rule_of
    is_assignable is_java_assignable walked
store_is = told over_long 0 0 4 Local _ refl _ refl _ refl refl

handler_is : IsRefused caught_as_array 0 0 2 Handler
unfolding library upwards went field_text base_text method_text result_text grown read_field read_method walk
    is_class_name is_member_name is_primitive_or_void is_name_byte part_after words_of argument_words rule_of
    is_assignable is_java_assignable walked
handler_is = told caught_as_array 0 0 2 Handler _ refl _ refl _ refl refl

result_is : IsRefused other_result 0 1 2 Operand
unfolding library upwards went field_text base_text method_text result_text grown read_field read_method walk
    is_class_name is_member_name is_primitive_or_void is_name_byte part_after words_of argument_words rule_of
    is_assignable is_java_assignable walked
result_is = told other_result 0 1 2 Operand _ refl _ refl _ refl refl

element_is : IsRefused element_as_array 0 0 10 Operand
unfolding library upwards went field_text base_text method_text result_text grown read_field read_method walk
    is_class_name is_member_name is_primitive_or_void is_name_byte part_after words_of argument_words rule_of
    is_assignable is_java_assignable walked
element_is = told element_as_array 0 0 10 Operand _ refl _ refl _ refl refl

protected_is : IsRefused protected_field 1 0 3 Protected
unfolding library upwards went field_text base_text method_text result_text grown read_field read_method walk
    is_class_name is_member_name is_primitive_or_void is_name_byte part_after words_of argument_words rule_of
    is_assignable is_java_assignable walked
protected_is = told protected_field 1 0 3 Protected _ refl _ refl _ refl refl

new_is : IsRefused new_string 0 0 1 Operand
unfolding library upwards went field_text base_text method_text result_text grown read_field read_method walk
    is_class_name is_member_name is_primitive_or_void is_name_byte part_after words_of argument_words rule_of
    is_assignable is_java_assignable walked
new_is = told new_string 0 0 1 Operand _ refl _ refl _ refl refl

constructor_is : IsRefused left_early 0 1 0 Uninit
unfolding library upwards went field_text base_text method_text result_text grown read_field read_method walk
    is_class_name is_member_name is_primitive_or_void is_name_byte part_after words_of argument_words rule_of
    is_assignable is_java_assignable walked
constructor_is = told left_early 0 1 0 Uninit _ refl _ refl _ refl refl

interface_is : IsRefused runnable_as_string 0 1 1 Operand
unfolding library upwards went field_text base_text method_text result_text grown read_field read_method walk
    is_class_name is_member_name is_primitive_or_void is_name_byte part_after words_of argument_words rule_of
    is_assignable is_java_assignable walked
interface_is = told runnable_as_string 0 1 1 Operand _ refl _ refl _ refl refl

condition_is : IsRefused long_tested 0 0 1 Operand
unfolding library upwards went field_text base_text method_text result_text grown read_field read_method walk
    is_class_name is_member_name is_primitive_or_void is_name_byte part_after words_of argument_words rule_of
    is_assignable is_java_assignable walked
condition_is = told long_tested 0 0 1 Operand _ refl _ refl _ refl refl

switch_is : IsRefused otherwise 0 0 1 Mismatch
unfolding library upwards went field_text base_text method_text result_text grown read_field read_method walk
    is_class_name is_member_name is_primitive_or_void is_name_byte part_after words_of argument_words rule_of
    is_assignable is_java_assignable walked
switch_is = told otherwise 0 0 1 Mismatch _ refl _ refl _ refl refl

receiver_is : IsRefused super_of_other 2 0 3 Operand
unfolding library upwards went field_text base_text method_text result_text grown read_field read_method walk
    is_class_name is_member_name is_primitive_or_void is_name_byte part_after words_of argument_words rule_of
    is_assignable is_java_assignable walked
receiver_is = told super_of_other 2 0 3 Operand _ refl _ refl _ refl refl

stored_is : IsRefused null_among_longs 0 0 4 Operand
unfolding library upwards went field_text base_text method_text result_text grown read_field read_method walk
    is_class_name is_member_name is_primitive_or_void is_name_byte part_after words_of argument_words rule_of
    is_assignable is_java_assignable walked
stored_is = told null_among_longs 0 0 4 Operand _ refl _ refl _ refl refl

pub refused : AreRefused
refused = record {
  store = store_is;
  handler = handler_is;
  result = result_is;
  element = element_is;
  protected = protected_is;
  new = new_is;
  constructor = constructor_is;
  interface = interface_is;
  condition = condition_is;
  switch = switch_is;
  receiver = receiver_is;
  stored = stored_is;
}
