-- Rows of runs: comparisons and branches, computed.
use Rattle.std.proofs.Common.{refl}
use Rattle.std.specs.Fmt.{digits}
use Rattle.std.specs.Int.{int_wrap}
use Rattle.jv_base.specs.Descriptors.{grown, read_field, read_method}
use Rattle.jv_base.specs.Names.{is_class_name, is_member_name, is_name_byte, is_primitive_or_void, part_after}
use Rattle.jv_base.specs.Types.{argument_words, base_text, field_text, method_text, result_text, words_of}
use Rattle.jv_base.specs.Walk.{walk}
use Rattle.lib_table.specs.Library.{library}
use Rattle.class_pool.specs.Walk.{upwards, walked}
use Rattle.run_rows.specs.Branches.{LcmpRow, IfsAgainstZeroRow, IfsTwoIntsRow, IfsTwoIntsAgainRow, BranchesRows}

lcmp_row : LcmpRow
unfolding library upwards walked field_text base_text method_text result_text grown read_field read_method walk
    is_class_name is_member_name is_primitive_or_void is_name_byte part_after words_of argument_words digits int_wrap
lcmp_row = refl

ifs_against_zero_row : IfsAgainstZeroRow
unfolding library upwards walked field_text base_text method_text result_text grown read_field read_method walk
    is_class_name is_member_name is_primitive_or_void is_name_byte part_after words_of argument_words digits int_wrap
ifs_against_zero_row = refl

ifs_two_ints_row : IfsTwoIntsRow
unfolding library upwards walked field_text base_text method_text result_text grown read_field read_method walk
    is_class_name is_member_name is_primitive_or_void is_name_byte part_after words_of argument_words digits int_wrap
ifs_two_ints_row = refl

ifs_two_ints_again_row : IfsTwoIntsAgainRow
unfolding library upwards walked field_text base_text method_text result_text grown read_field read_method walk
    is_class_name is_member_name is_primitive_or_void is_name_byte part_after words_of argument_words digits int_wrap
ifs_two_ints_again_row = refl

pub computed : BranchesRows
computed = (lcmp_row, ifs_against_zero_row, ifs_two_ints_row, ifs_two_ints_again_row)
