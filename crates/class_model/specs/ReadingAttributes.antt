-- Reading attributes from left to right (JVMS 4.7): the header of each, and those whose contents are short.
use Rattle.std.specs.Prelude.{ℕ, zero, suc, Bool, true, false, ◌&&◌, not, List, slice_get, codes, Option, Some, None}
use Rattle.std.specs.Prelude.{option_map, Result, Ok, Err, ◌==◌, if◌then◌else◌}
use Rattle.jv_base.specs.Names.{is_text}
use Rattle.jv_base.specs.declared.types.FieldType.{FieldType}
use Rattle.jv_base.specs.declared.types.Base.{Base}
use Rattle.jv_base.specs.declared.types.Base.TheVariants as base
use Rattle.format_reading.specs.Reader.{FormatReader, u2, u4, bytes, item, give, here, settle, part, many, ◌>>=◌}
use Rattle.format_reading.specs.declared.fault.FormatKind.{FormatKind}
use Rattle.format_reading.specs.declared.fault.FormatKind.TheVariants as bad
use Rattle.class_model.specs.declared.pool.Entry.{Entry}
use Rattle.class_model.specs.declared.pool.Entry.TheVariants as entry
use Rattle.class_model.specs.declared.class.Constant.{Constant}
use Rattle.class_model.specs.declared.class.Constant.TheVariants as constant
use Rattle.class_model.specs.Pool.{units_at}
use Rattle.class_model.specs.ConstantPool.{string_units_at}
use Rattle.class_model.specs.LineNumbers.{LineNumber}
use Rattle.class_model.specs.Lookups.{due, test, class_at}

-- ---- the header

-- the rest of an attribute whose contents have a length: read as a part where it is known, else passed over (JVMS 4.7)
abbrev pub contents : {S : Type 0} → ℕ → ℕ → S → Option (FormatReader S) → FormatReader S
contents at n seen (Some r) = part at n r
contents at n seen None = do
  skipped ← bytes n
  give seen

-- an attribute; known says what to read, by the attribute's offset, its name, its length and what was seen before
-- (JVMS 4.7)
abbrev pub attribute : {S : Type 0} → List Entry → (ℕ → List ℕ → ℕ → S → Option (FormatReader S)) → S → FormatReader S
attribute pool known seen = do
  at ← here
  name ← item u2 (λ index. due bad.BadIndex (units_at pool index))
  n ← u4
  contents at n seen (known at name n seen)

-- n attributes (JVMS 4.7)
unfoldable pub attributes : {S : Type 0} → ℕ → List Entry → (ℕ → List ℕ → ℕ → S → Option (FormatReader S)) → S
    → FormatReader S
attributes zero pool known seen = give seen
attributes (suc n) pool known seen = do
  now ← attribute pool known seen
  attributes n pool known now

-- attributes, behind their count (JVMS 4.1, 4.5, 4.6, 4.7.3)
abbrev pub counted_attributes : {S : Type 0} → List Entry → (ℕ → List ℕ → ℕ → S → Option (FormatReader S)) → S
    → FormatReader S
counted_attributes pool known seen = do
  n ← u2
  attributes n pool known seen

-- an attribute that may stand once in its place (JVMS 4.7.2 to 4.7.5, 4.7.10)
abbrev pub once : {S : Type 0} → ℕ → Bool → FormatReader S → FormatReader S
once at had r = do
  first ← settle at (test bad.Repeated (not had))
  r

-- ---- contents

-- SourceFile (JVMS 4.7.10)
abbrev pub source_file : List Entry → FormatReader (List ℕ)
source_file pool = item u2 (λ index. due bad.BadIndex (units_at pool index))

-- Exceptions (JVMS 4.7.5)
unfoldable pub exceptions : List Entry → FormatReader (List (List ℕ))
exceptions pool = do
  n ← u2
  many n (item u2 (class_at pool))

-- a row of LineNumberTable (JVMS 4.7.12)
abbrev pub read_line : FormatReader LineNumber
read_line = do
  start_pc ← u2
  number ← u2
  give (record { start_pc = start_pc; line_number = number })

-- the contents of a LineNumberTable: rows in any order, behind their count (JVMS 4.7.12)
unfoldable pub line_number_table : FormatReader (List LineNumber)
line_number_table = do
  n ← u2
  many n read_line

-- ---- ConstantValue (JVMS 4.7.2)

-- the types whose constants are a CONSTANT_Integer (JVMS 4.7.2, table 4.7.2-A)
abbrev pub is_int_base : Base → Bool
is_int_base base.Int = true
is_int_base base.Short = true
is_int_base base.Char = true
is_int_base base.Byte = true
is_int_base base.Boolean = true
is_int_base _ = false

-- the type whose constants are a CONSTANT_Long (JVMS 4.7.2, table 4.7.2-A)
abbrev pub is_long_base : Base → Bool
is_long_base base.Long = true
is_long_base _ = false

-- the class whose constants are a CONSTANT_String (JVMS 4.7.2, table 4.7.2-A)
abbrev pub is_string_base : Base → Bool
is_string_base (base.Class name) = is_text name (codes "java/lang/String")
is_string_base _ = false

-- the type whose constants are a CONSTANT_Float (JVMS 4.7.2, table 4.7.2-A)
abbrev pub is_float_base : Base → Bool
is_float_base base.Float = true
is_float_base _ = false

-- the type whose constants are a CONSTANT_Double (JVMS 4.7.2, table 4.7.2-A)
abbrev pub is_double_base : Base → Bool
is_double_base base.Double = true
is_double_base _ = false

-- a constant of the kind that fits (JVMS 4.7.2)
abbrev pub fitting : Bool → Option Constant → Result (Option Constant) FormatKind
fitting fits value = if fits then Ok value else Err bad.BadConstant

-- whether a type is no array and its base is this one (JVMS 4.3.2)
abbrev pub plain : (Base → Bool) → FieldType → Bool
plain is_base ty = ty.dims == 0 && is_base ty.base

-- the constant that an entry is for a field of a type; a float or a double is left out
-- (JVMS 4.7.2; that float and double are left out is the project's own)
abbrev pub constant_in : List Entry → ℕ → FieldType → Option Entry → Result (Option Constant) FormatKind
constant_in pool index ty (Some (entry.Integer n)) = fitting (plain is_int_base ty) (Some (constant.Int n))
constant_in pool index ty (Some (entry.Long n)) = fitting (plain is_long_base ty) (Some (constant.Long n))
constant_in pool index ty (Some (entry.Str string_index)) =
    fitting (plain is_string_base ty) (option_map (λ units. constant.Text units) (string_units_at pool index))
constant_in pool index ty (Some (entry.LeftOut tag)) =
    if tag == 4 then fitting (plain is_float_base ty) None
    else if tag == 6 then fitting (plain is_double_base ty) None
    else Err bad.BadIndex
constant_in pool index ty _ = Err bad.BadIndex

-- the contents of a ConstantValue, for a static field of this type; a constant that does not fit is at fault at its
-- index (JVMS 4.7.2)
abbrev pub constant_value : List Entry → FieldType → FormatReader (Option Constant)
constant_value pool ty = item u2 (λ index. constant_in pool index ty (slice_get pool index))
