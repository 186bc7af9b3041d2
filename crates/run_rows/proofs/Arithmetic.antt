-- Rows of runs: arithmetic, computed.
use Rattle.std.proofs.Common.{refl}
use Rattle.std.specs.Fmt.{digits}
use Rattle.std.specs.Int.{int_wrap}
use Rattle.jv_base.specs.Descriptors.{grown, read_field, read_method}
use Rattle.jv_base.specs.Names.{is_class_name, is_member_name, is_name_byte, is_primitive_or_void, part_after}
use Rattle.jv_base.specs.Types.{argument_words, base_text, field_text, method_text, result_text, words_of}
use Rattle.jv_base.specs.Walk.{walk}
use Rattle.lib_table.specs.Library.{library}
use Rattle.class_pool.specs.Walk.{upwards, walked}
use Rattle.run_rows.specs.Arithmetic.{IntArithmeticRow, LongArithmeticRow, IntShiftsRow, LongShiftsRow, NopRow}
use Rattle.run_rows.specs.Arithmetic.{I2cAndI2bRow, ArithmeticRows, IntArithmeticBelowZeroRow, IntShiftsMaskedRow}
use Rattle.run_rows.specs.Arithmetic.{LongShiftsMaskedRow}

int_arithmetic_row : IntArithmeticRow
unfolding library upwards walked field_text base_text method_text result_text grown read_field read_method walk
    is_class_name is_member_name is_primitive_or_void is_name_byte part_after words_of argument_words digits int_wrap
int_arithmetic_row = refl

long_arithmetic_row : LongArithmeticRow
unfolding library upwards walked field_text base_text method_text result_text grown read_field read_method walk
    is_class_name is_member_name is_primitive_or_void is_name_byte part_after words_of argument_words digits int_wrap
long_arithmetic_row = refl

int_shifts_row : IntShiftsRow
unfolding library upwards walked field_text base_text method_text result_text grown read_field read_method walk
    is_class_name is_member_name is_primitive_or_void is_name_byte part_after words_of argument_words digits int_wrap
int_shifts_row = refl

long_shifts_row : LongShiftsRow
unfolding library upwards walked field_text base_text method_text result_text grown read_field read_method walk
    is_class_name is_member_name is_primitive_or_void is_name_byte part_after words_of argument_words digits int_wrap
long_shifts_row = refl

nop_row : NopRow
unfolding library upwards walked field_text base_text method_text result_text grown read_field read_method walk
    is_class_name is_member_name is_primitive_or_void is_name_byte part_after words_of argument_words digits int_wrap
nop_row = refl

i2c_and_i2b_row : I2cAndI2bRow
unfolding library upwards walked field_text base_text method_text result_text grown read_field read_method walk
    is_class_name is_member_name is_primitive_or_void is_name_byte part_after words_of argument_words digits int_wrap
i2c_and_i2b_row = refl

int_arithmetic_below_zero_row : IntArithmeticBelowZeroRow
unfolding library upwards walked field_text base_text method_text result_text grown read_field read_method walk
    is_class_name is_member_name is_primitive_or_void is_name_byte part_after words_of argument_words digits int_wrap
int_arithmetic_below_zero_row = refl

int_shifts_masked_row : IntShiftsMaskedRow
unfolding library upwards walked field_text base_text method_text result_text grown read_field read_method walk
    is_class_name is_member_name is_primitive_or_void is_name_byte part_after words_of argument_words digits int_wrap
int_shifts_masked_row = (refl, refl)

long_shifts_masked_row : LongShiftsMaskedRow
unfolding library upwards walked field_text base_text method_text result_text grown read_field read_method walk
    is_class_name is_member_name is_primitive_or_void is_name_byte part_after words_of argument_words digits int_wrap
long_shifts_masked_row = (refl, refl)

pub computed : ArithmeticRows
computed = (
  int_arithmetic_row,
  int_arithmetic_below_zero_row,
  long_arithmetic_row,
  int_shifts_row,
  int_shifts_masked_row,
  long_shifts_row,
  long_shifts_masked_row,
  nop_row,
  i2c_and_i2b_row,
)
