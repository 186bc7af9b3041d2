-- The type that the descriptor of a field or a method tells, or why it may not stand there (JVMS 4.3.3, 4.5, 4.6).
use Rattle.std.specs.Prelude.{ℕ, Bool, List, Result, Ok}
use Rattle.jv_base.specs.Outcome.{◌>>=◌}
use Rattle.jv_base.specs.declared.types.FieldType.{FieldType}
use Rattle.jv_base.specs.declared.types.MethodType.{MethodType}
use Rattle.format_reading.specs.declared.fault.FormatKind.{FormatKind}
use Rattle.format_reading.specs.declared.fault.FormatKind.TheVariants as bad
use Rattle.class_model.specs.declared.pool.Entry.{Entry}
use Rattle.class_model.specs.Flags.{are_initial_flags}
use Rattle.class_model.specs.Members.{has_room_for_this, is_initial_type}
use Rattle.class_model.specs.Lookups.{due, test, text_at, field_type_of, method_type_of}

-- the type of a field (JVMS 4.5)
unfoldable pub field_type_at : List Entry → ℕ → Result FieldType FormatKind
field_type_at pool index = do
  text ← text_at bad.BadDescriptor pool index
  due bad.BadDescriptor (field_type_of text)

-- the type of a method with these flags and this name; the rules of initialisation methods come last, their flags first
-- (JVMS 2.9, 4.6; the order of faults is the project's own)
unfoldable pub method_type_at : List Entry → Bool → ℕ → List ℕ → ℕ → Result MethodType FormatKind
method_type_at pool in_interface flags name index = do
  text ← text_at bad.BadDescriptor pool index
  ty ← due bad.BadDescriptor (method_type_of text)
  room ← test bad.BadDescriptor (has_room_for_this flags ty)
  allowed ← test bad.BadFlags (are_initial_flags in_interface flags name)
  typed ← test bad.BadDescriptor (is_initial_type name ty)
  Ok ty
