-- What a few small programs do, computed.
use Rattle.std.proofs.Common.{refl}
use Rattle.std.specs.Fmt.{digits}
use Rattle.std.specs.Int.{int_wrap}
use Rattle.jv_base.specs.Descriptors.{grown, read_field, read_method}
use Rattle.jv_base.specs.Names.{is_class_name, is_member_name, is_name_byte, is_primitive_or_void, part_after}
use Rattle.jv_base.specs.Types.{argument_words, base_text, field_text, method_text, result_text, words_of}
use Rattle.jv_base.specs.Walk.{walk}
use Rattle.lib_table.specs.Library.{library}
use Rattle.class_pool.specs.Walk.{upwards, walked}
use Rattle.set_view.specs.Examples.{Arrays, Calls, Exceptions, FailedInitialisation, HashCodes, Initialisation, Loop}
use Rattle.set_view.specs.Examples.{Selection, Startable}

pub hash_codes : HashCodes
unfolding library upwards walked field_text base_text method_text result_text grown read_field read_method walk
    is_class_name is_member_name is_primitive_or_void is_name_byte part_after words_of argument_words digits int_wrap
hash_codes = (refl, refl)

pub loops : Loop
unfolding library upwards walked field_text base_text method_text result_text grown read_field read_method walk
    is_class_name is_member_name is_primitive_or_void is_name_byte part_after words_of argument_words digits int_wrap
loops = (refl, refl)

pub calls : Calls
unfolding library upwards walked field_text base_text method_text result_text grown read_field read_method walk
    is_class_name is_member_name is_primitive_or_void is_name_byte part_after words_of argument_words digits int_wrap
calls = refl

pub exceptions : Exceptions
unfolding library upwards walked field_text base_text method_text result_text grown read_field read_method walk
    is_class_name is_member_name is_primitive_or_void is_name_byte part_after words_of argument_words digits int_wrap
exceptions = (refl, refl, refl)

pub failed_initialisation : FailedInitialisation
unfolding library upwards walked field_text base_text method_text result_text grown read_field read_method walk
    is_class_name is_member_name is_primitive_or_void is_name_byte part_after words_of argument_words digits int_wrap
failed_initialisation = (refl, refl)

pub initialisation : Initialisation
unfolding library upwards walked field_text base_text method_text result_text grown read_field read_method walk
    is_class_name is_member_name is_primitive_or_void is_name_byte part_after words_of argument_words digits int_wrap
initialisation = (refl, refl)

pub selection : Selection
unfolding library upwards walked field_text base_text method_text result_text grown read_field read_method walk
    is_class_name is_member_name is_primitive_or_void is_name_byte part_after words_of argument_words digits int_wrap
selection = (refl, refl)

pub arrays : Arrays
unfolding library upwards walked field_text base_text method_text result_text grown read_field read_method walk
    is_class_name is_member_name is_primitive_or_void is_name_byte part_after words_of argument_words digits int_wrap
arrays = refl

pub startable : Startable
unfolding library upwards walked field_text base_text method_text result_text grown read_field read_method walk
    is_class_name is_member_name is_primitive_or_void is_name_byte part_after words_of argument_words digits int_wrap
startable = (refl, refl, refl, refl, refl, refl)
