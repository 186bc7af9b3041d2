-- Parts of what is judged of an entry of a constant pool (JVMS 4.4; only the proof of read_class needs it).
use Rattle.std.specs.Prelude.{ℕ, List, Result, slice_get, option_and_then, is_some}
use Rattle.jv_base.specs.Outcome.{◌>>=◌}
use Rattle.format_reading.specs.declared.fault.FormatKind.{FormatKind}
use Rattle.format_reading.specs.declared.fault.FormatKind.TheVariants as bad
use Rattle.class_model.specs.declared.pool.Entry.{Entry}
use Rattle.class_model.specs.Pool.{name_index_in}
use Rattle.class_model.specs.ConstantPool.{name_and_type_at}
use Rattle.class_model.specs.Lookups.{due, test, text_at, named_type}

-- the text at an index names a class or an array type (JVMS 4.4.1)
abbrev pub type_named_right : List Entry → ℕ → Result (Unit {0}) FormatKind
type_named_right pool index = do
  text ← text_at bad.BadName pool index
  test bad.BadName (is_some (named_type text))

-- the indices of the name and the descriptor of a reference, where the tags of its two entries are right (JVMS 4.4.2)
abbrev pub referred : List Entry → ℕ → ℕ → Result (ℕ × ℕ) FormatKind
referred pool class_index index = do
  class ← due bad.BadIndex (option_and_then name_index_in (slice_get pool class_index))
  due bad.BadIndex (name_and_type_at pool index)
