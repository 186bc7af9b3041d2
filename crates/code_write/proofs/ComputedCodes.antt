-- What the definitions give for a few codes, computed.
use Rattle.std.proofs.Common.{refl}
use Rattle.std.specs.Str.{chars}
use Rattle.std.specs.Char.Utf16.{utf16_chars}
use Rattle.jv_base.specs.Utf16.{units_of}
use Rattle.jv_base.specs.Names.{part_after, is_primitive_or_void, is_name_byte, is_class_name}
use Rattle.jv_base.specs.Walk.{walk}
use Rattle.jv_base.specs.Types.{base_text, field_text, result_text, method_text, words_of, argument_words}
use Rattle.jv_base.specs.Descriptors.{grown, read_field, read_method}
use Rattle.class_model.specs.CanonicalCode.{places, code_bytes}
use Rattle.code_write.specs.Coded.{placed, coded}
use Rattle.code_write.specs.Constants.{said_at, first_constants}
use Rattle.code_write.specs.rows.Examples.{AreOnMembers, AreOnTypes, AreNewArrays}

pub on_members : AreOnMembers
unfolding lib.Utf8.encode chars utf16_chars units_of part_after is_primitive_or_void is_name_byte is_class_name walk
    base_text field_text result_text method_text words_of argument_words grown read_field read_method places code_bytes
    placed coded said_at first_constants
on_members = refl

pub on_types : AreOnTypes
unfolding lib.Utf8.encode chars utf16_chars units_of part_after is_primitive_or_void is_name_byte is_class_name walk
    base_text field_text result_text method_text words_of argument_words grown read_field read_method places code_bytes
    placed coded said_at first_constants
on_types = refl

pub new_arrays : AreNewArrays
unfolding places code_bytes placed coded
new_arrays = refl
