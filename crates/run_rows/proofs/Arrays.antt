-- Rows of runs: arrays, computed.
use Rattle.std.proofs.Common.{refl}
use Rattle.std.specs.Fmt.{digits}
use Rattle.std.specs.Int.{int_wrap}
use Rattle.jv_base.specs.Descriptors.{grown, read_field, read_method}
use Rattle.jv_base.specs.Names.{is_class_name, is_member_name, is_name_byte, is_primitive_or_void, part_after}
use Rattle.jv_base.specs.Types.{argument_words, base_text, field_text, method_text, result_text, words_of}
use Rattle.jv_base.specs.Walk.{walk}
use Rattle.lib_table.specs.Library.{library}
use Rattle.class_pool.specs.Walk.{upwards, walked}
use Rattle.run_rows.specs.Arrays.{StoreNarrowsToShortRow, BooleanLoadFromNullRow, LongStoreAtTheLengthRow}
use Rattle.run_rows.specs.Arrays.{LoadReferenceFromNullRow, StoreReferenceIntoNullRow, StoresReferencesRow}
use Rattle.run_rows.specs.Arrays.{NoSuchSizesRow, LengthNullRow, ArraysRows}

store_narrows_to_short_row : StoreNarrowsToShortRow
unfolding library upwards walked field_text base_text method_text result_text grown read_field read_method walk
    is_class_name is_member_name is_primitive_or_void is_name_byte part_after words_of argument_words digits int_wrap
store_narrows_to_short_row = refl

boolean_load_from_null_row : BooleanLoadFromNullRow
unfolding library upwards walked field_text base_text method_text result_text grown read_field read_method walk
    is_class_name is_member_name is_primitive_or_void is_name_byte part_after words_of argument_words digits int_wrap
boolean_load_from_null_row = refl

long_store_at_the_length_row : LongStoreAtTheLengthRow
unfolding library upwards walked field_text base_text method_text result_text grown read_field read_method walk
    is_class_name is_member_name is_primitive_or_void is_name_byte part_after words_of argument_words digits int_wrap
long_store_at_the_length_row = refl

load_reference_from_null_row : LoadReferenceFromNullRow
unfolding library upwards walked field_text base_text method_text result_text grown read_field read_method walk
    is_class_name is_member_name is_primitive_or_void is_name_byte part_after words_of argument_words digits int_wrap
load_reference_from_null_row = refl

store_reference_into_null_row : StoreReferenceIntoNullRow
unfolding library upwards walked field_text base_text method_text result_text grown read_field read_method walk
    is_class_name is_member_name is_primitive_or_void is_name_byte part_after words_of argument_words digits int_wrap
store_reference_into_null_row = refl

stores_references_row : StoresReferencesRow
unfolding library upwards walked field_text base_text method_text result_text grown read_field read_method walk
    is_class_name is_member_name is_primitive_or_void is_name_byte part_after words_of argument_words digits int_wrap
stores_references_row = refl

no_such_sizes_row : NoSuchSizesRow
unfolding library upwards walked field_text base_text method_text result_text grown read_field read_method walk
    is_class_name is_member_name is_primitive_or_void is_name_byte part_after words_of argument_words digits int_wrap
no_such_sizes_row = refl

length_null_row : LengthNullRow
unfolding library upwards walked field_text base_text method_text result_text grown read_field read_method walk
    is_class_name is_member_name is_primitive_or_void is_name_byte part_after words_of argument_words digits int_wrap
length_null_row = refl

pub computed : ArraysRows
computed = (
  store_narrows_to_short_row,
  boolean_load_from_null_row,
  long_store_at_the_length_row,
  load_reference_from_null_row,
  store_reference_into_null_row,
  stores_references_row,
  no_such_sizes_row,
  length_null_row,
)
