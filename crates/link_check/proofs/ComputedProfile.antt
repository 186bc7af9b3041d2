-- What the rules for classes give for a few small sets, computed.
use Rattle.std.proofs.Common.{refl}
use Rattle.jv_base.specs.Descriptors.{grown, read_field, read_method}
use Rattle.jv_base.specs.Names.{is_class_name, is_member_name, is_name_byte, is_primitive_or_void, part_after}
use Rattle.jv_base.specs.Types.{argument_words, base_text, field_text, method_text, result_text, words_of}
use Rattle.jv_base.specs.Walk.{walk}
use Rattle.lib_table.specs.Library.{library}
use Rattle.class_pool.specs.Walk.{upwards, walked}
use Rattle.link_check.specs.Profile.{least}
use Rattle.link_check.specs.rows.ProfileRows.{ResolvedFieldRows, ResolvedMethodRows, LibraryMethodRows}
use Rattle.link_check.specs.rows.ProfileRows.{ResolvedArrayRows}
use Rattle.link_check.specs.rows.ProfileRows.{SupertypeRows, TypeRows, OperandRows, HandlerRows, FieldRows, CallRows}
use Rattle.link_check.specs.rows.ProfileRows.{LibraryCallRows, AccessRows, SpecialRows, InitRows, NewRows}
use Rattle.link_check.specs.rows.ProfileRows.{ArrayCallRows}
use Rattle.link_check.specs.rows.ProfileRows.{FinalRows, OverridingRows, OverridingThroughRows, LibraryOverridingRows}
use Rattle.link_check.specs.rows.ProfileRows.{SuperinterfaceRows, ImplementingRows, InterfaceBodyRows, FlagRows}
use Rattle.link_check.specs.rows.ProfileRows.{NotedRows}
use Rattle.link_check.specs.rows.ProfileRows.{FloatRows, SeveralRows}

pub resolved_fields : ResolvedFieldRows
unfolding library upwards walked field_text base_text method_text result_text grown read_field read_method walk
    is_class_name is_member_name is_primitive_or_void is_name_byte part_after words_of argument_words least
resolved_fields = (refl, refl, refl, refl, refl, refl)

pub resolved_methods : ResolvedMethodRows
unfolding library upwards walked field_text base_text method_text result_text grown read_field read_method walk
    is_class_name is_member_name is_primitive_or_void is_name_byte part_after words_of argument_words least
resolved_methods = (refl, refl, refl, refl, refl, refl)

pub library_methods : LibraryMethodRows
unfolding library upwards walked field_text base_text method_text result_text grown read_field read_method walk
    is_class_name is_member_name is_primitive_or_void is_name_byte part_after words_of argument_words least
library_methods = (refl, refl, refl, refl, refl)

pub resolved_arrays : ResolvedArrayRows
unfolding library upwards walked field_text base_text method_text result_text grown read_field read_method walk
    is_class_name is_member_name is_primitive_or_void is_name_byte part_after words_of argument_words least
resolved_arrays = (refl, refl, refl, refl, refl, refl)

pub supertypes : SupertypeRows
unfolding library upwards walked field_text base_text method_text result_text grown read_field read_method walk
    is_class_name is_member_name is_primitive_or_void is_name_byte part_after words_of argument_words least
supertypes = (refl, refl, refl, refl, refl)

pub types : TypeRows
unfolding library upwards walked field_text base_text method_text result_text grown read_field read_method walk
    is_class_name is_member_name is_primitive_or_void is_name_byte part_after words_of argument_words least
types = (refl, refl, refl, refl, refl, refl)

pub operands : OperandRows
unfolding library upwards walked field_text base_text method_text result_text grown read_field read_method walk
    is_class_name is_member_name is_primitive_or_void is_name_byte part_after words_of argument_words least
operands = (refl, refl, refl, refl, refl, refl)

pub handlers : HandlerRows
unfolding library upwards walked field_text base_text method_text result_text grown read_field read_method walk
    is_class_name is_member_name is_primitive_or_void is_name_byte part_after words_of argument_words least
handlers = (refl, refl, refl, refl, refl, refl)

pub fields : FieldRows
unfolding library upwards walked field_text base_text method_text result_text grown read_field read_method walk
    is_class_name is_member_name is_primitive_or_void is_name_byte part_after words_of argument_words least
fields = (refl, refl, refl, refl, refl, refl)

pub calls : CallRows
unfolding library upwards walked field_text base_text method_text result_text grown read_field read_method walk
    is_class_name is_member_name is_primitive_or_void is_name_byte part_after words_of argument_words least
calls = (refl, refl, refl, refl, refl, refl)

pub library_calls : LibraryCallRows
unfolding library upwards walked field_text base_text method_text result_text grown read_field read_method walk
    is_class_name is_member_name is_primitive_or_void is_name_byte part_after words_of argument_words least
library_calls = (refl, refl, refl, refl, refl, refl)

pub access : AccessRows
unfolding library upwards walked field_text base_text method_text result_text grown read_field read_method walk
    is_class_name is_member_name is_primitive_or_void is_name_byte part_after words_of argument_words least
access = (refl, refl, refl, refl, refl)

pub special_calls : SpecialRows
unfolding library upwards walked field_text base_text method_text result_text grown read_field read_method walk
    is_class_name is_member_name is_primitive_or_void is_name_byte part_after words_of argument_words least
special_calls = (refl, refl, refl, refl, refl, refl)

pub instance_initialisation : InitRows
unfolding library upwards walked field_text base_text method_text result_text grown read_field read_method walk
    is_class_name is_member_name is_primitive_or_void is_name_byte part_after words_of argument_words least
instance_initialisation = (refl, refl, refl, refl, refl, refl, refl)

pub new_objects : NewRows
unfolding library upwards walked field_text base_text method_text result_text grown read_field read_method walk
    is_class_name is_member_name is_primitive_or_void is_name_byte part_after words_of argument_words least
new_objects = (refl, refl, refl, refl, refl, refl, refl)

pub array_calls : ArrayCallRows
unfolding library upwards walked field_text base_text method_text result_text grown read_field read_method walk
    is_class_name is_member_name is_primitive_or_void is_name_byte part_after words_of argument_words least
array_calls = (refl, refl, refl, refl)

pub final_fields : FinalRows
unfolding library upwards walked field_text base_text method_text result_text grown read_field read_method walk
    is_class_name is_member_name is_primitive_or_void is_name_byte part_after words_of argument_words least
final_fields = (refl, refl, refl, refl, refl, refl, refl)

pub overriding : OverridingRows
unfolding library upwards walked field_text base_text method_text result_text grown read_field read_method walk
    is_class_name is_member_name is_primitive_or_void is_name_byte part_after words_of argument_words least
overriding = (refl, refl, refl, refl, refl, refl, refl)

pub overriding_through : OverridingThroughRows
unfolding library upwards walked field_text base_text method_text result_text grown read_field read_method walk
    is_class_name is_member_name is_primitive_or_void is_name_byte part_after words_of argument_words least
overriding_through = (refl, refl)

pub library_overriding : LibraryOverridingRows
unfolding library upwards walked field_text base_text method_text result_text grown read_field read_method walk
    is_class_name is_member_name is_primitive_or_void is_name_byte part_after words_of argument_words least
library_overriding = (refl, refl, refl, refl)

pub superinterfaces : SuperinterfaceRows
unfolding library upwards walked field_text base_text method_text result_text grown read_field read_method walk
    is_class_name is_member_name is_primitive_or_void is_name_byte part_after words_of argument_words least
superinterfaces = (refl, refl, refl, refl, refl, refl)

pub implementing : ImplementingRows
unfolding library upwards walked field_text base_text method_text result_text grown read_field read_method walk
    is_class_name is_member_name is_primitive_or_void is_name_byte part_after words_of argument_words least
implementing = (refl, refl, refl, refl)

pub interface_bodies : InterfaceBodyRows
unfolding library upwards walked field_text base_text method_text result_text grown read_field read_method walk
    is_class_name is_member_name is_primitive_or_void is_name_byte part_after words_of argument_words least
interface_bodies = (refl, refl, refl, refl, refl)

pub flags : FlagRows
unfolding library upwards walked field_text base_text method_text result_text grown read_field read_method walk
    is_class_name is_member_name is_primitive_or_void is_name_byte part_after words_of argument_words least
flags = (refl, refl, refl, refl)

pub noted : NotedRows
unfolding library upwards walked field_text base_text method_text result_text grown read_field read_method walk
    is_class_name is_member_name is_primitive_or_void is_name_byte part_after words_of argument_words least
noted = (refl, refl, refl, refl, refl, refl)

pub floats : FloatRows
unfolding library upwards walked field_text base_text method_text result_text grown read_field read_method walk
    is_class_name is_member_name is_primitive_or_void is_name_byte part_after words_of argument_words least
floats = (refl, refl, refl, refl, refl, refl, refl, refl)

pub several : SeveralRows
unfolding library upwards walked field_text base_text method_text result_text grown read_field read_method walk
    is_class_name is_member_name is_primitive_or_void is_name_byte part_after words_of argument_words least
several = (refl, refl, refl, refl, refl, refl, refl)
