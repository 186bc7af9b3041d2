-- Rows of runs: calls and selection, computed.
use Rattle.std.proofs.Common.{refl}
use Rattle.std.specs.Fmt.{digits}
use Rattle.std.specs.Int.{int_wrap}
use Rattle.jv_base.specs.Descriptors.{grown, read_field, read_method}
use Rattle.jv_base.specs.Names.{is_class_name, is_member_name, is_name_byte, is_primitive_or_void, part_after}
use Rattle.jv_base.specs.Types.{argument_words, base_text, field_text, method_text, result_text, words_of}
use Rattle.jv_base.specs.Walk.{walk}
use Rattle.lib_table.specs.Library.{library}
use Rattle.class_pool.specs.Walk.{upwards, walked}
use Rattle.run_rows.specs.Calls.{ConstructorThrowsRow, SuperEqualsRow, InterfaceOnArrayRow}
use Rattle.run_rows.specs.Calls.{InterfaceSelectsPackagePrivateRow, InterfaceSelectsNoneRow, VirtualSelectsAbstractRow}
use Rattle.run_rows.specs.Calls.{InterfacePassesOverStaticRow, InterfaceEqualsRow, CallsRows}

constructor_throws_row : ConstructorThrowsRow
unfolding library upwards walked field_text base_text method_text result_text grown read_field read_method walk
    is_class_name is_member_name is_primitive_or_void is_name_byte part_after words_of argument_words digits int_wrap
constructor_throws_row = refl

super_equals_row : SuperEqualsRow
unfolding library upwards walked field_text base_text method_text result_text grown read_field read_method walk
    is_class_name is_member_name is_primitive_or_void is_name_byte part_after words_of argument_words digits int_wrap
super_equals_row = refl

interface_on_array_row : InterfaceOnArrayRow
unfolding library upwards walked field_text base_text method_text result_text grown read_field read_method walk
    is_class_name is_member_name is_primitive_or_void is_name_byte part_after words_of argument_words digits int_wrap
interface_on_array_row = refl

interface_selects_package_private_row : InterfaceSelectsPackagePrivateRow
unfolding library upwards walked field_text base_text method_text result_text grown read_field read_method walk
    is_class_name is_member_name is_primitive_or_void is_name_byte part_after words_of argument_words digits int_wrap
interface_selects_package_private_row = refl

interface_selects_none_row : InterfaceSelectsNoneRow
unfolding library upwards walked field_text base_text method_text result_text grown read_field read_method walk
    is_class_name is_member_name is_primitive_or_void is_name_byte part_after words_of argument_words digits int_wrap
interface_selects_none_row = refl

virtual_selects_abstract_row : VirtualSelectsAbstractRow
unfolding library upwards walked field_text base_text method_text result_text grown read_field read_method walk
    is_class_name is_member_name is_primitive_or_void is_name_byte part_after words_of argument_words digits int_wrap
virtual_selects_abstract_row = refl

interface_passes_over_static_row : InterfacePassesOverStaticRow
unfolding library upwards walked field_text base_text method_text result_text grown read_field read_method walk
    is_class_name is_member_name is_primitive_or_void is_name_byte part_after words_of argument_words digits int_wrap
interface_passes_over_static_row = refl

interface_equals_row : InterfaceEqualsRow
unfolding library upwards walked field_text base_text method_text result_text grown read_field read_method walk
    is_class_name is_member_name is_primitive_or_void is_name_byte part_after words_of argument_words digits int_wrap
interface_equals_row = refl

pub computed : CallsRows
computed = (
  constructor_throws_row,
  super_equals_row,
  interface_on_array_row,
  interface_selects_package_private_row,
  interface_selects_none_row,
  virtual_selects_abstract_row,
  interface_passes_over_static_row,
  interface_equals_row,
)
