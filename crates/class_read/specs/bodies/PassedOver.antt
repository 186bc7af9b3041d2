-- What stands behind an instruction that is left out is passed over
-- (JVMS 4.7.3; only the proof of read_class needs it).
use Rattle.std.specs.Prelude.{ℕ, zero, suc, ◌*◌}
use Rattle.format_reading.specs.Reader.{FormatReader, u2, bytes, give, ◌>>=◌}
use Rattle.class_model.specs.ReadingCodeAttribute.{skipped_attribute}

-- n attributes by their lengths, their names not looked at
unfoldable pub attributes_passed : ℕ → FormatReader (Unit {0})
attributes_passed zero = give tt
attributes_passed (suc n) = do
  passed ← skipped_attribute
  attributes_passed n

-- the exception table, of eight bytes a row, and the attributes
unfoldable pub passed_over : FormatReader (Unit {0})
passed_over = do
  n ← u2
  handlers ← bytes (8 * n)
  m ← u2
  attributes_passed m
