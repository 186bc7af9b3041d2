-- A class file, read part by part (JVMS 4.1).
use Rattle.std.specs.Prelude.{ℕ, List, Option}
use Rattle.format_reading.specs.Reader.{FormatReader, item, give, u2, ◌>>=◌}
use Rattle.class_model.specs.declared.class.Class.{Class}
use Rattle.class_model.specs.declared.class.Field.{Field}
use Rattle.class_model.specs.declared.class.Method.{Method}
use Rattle.class_model.specs.declared.class.LeftKind.{LeftKind}
use Rattle.class_model.specs.declared.pool.Entry.{Entry}
use Rattle.class_model.specs.Lookups.{class_at}
use Rattle.class_model.specs.ReadingAttributes.{counted_attributes}
use Rattle.class_model.specs.ReadingClass.{ClassSeen, class_of, known_of_class, no_class_attribute, read_all_fields}
use Rattle.class_model.specs.ReadingClass.{read_all_methods, read_interfaces}
use Rattle.class_read.specs.declared.class.ClassNames.{ClassNames}

-- the class of these items, its names being together (only the proof of the reader needs it)
abbrev pub class_named : ℕ → List Entry → ClassNames → List Field → List Method × List (Option LeftKind) → ClassSeen
    → Class
class_named flags pool names fields methods seen =
    class_of flags pool names.name names.super_name names.interfaces fields methods seen

-- what stands behind the interfaces: fields, methods and attributes (JVMS 4.1)
unfoldable pub behind_names : List Entry → ℕ → ClassNames → FormatReader Class
behind_names pool flags names = do
  fields ← read_all_fields pool flags
  methods ← read_all_methods pool flags names.name
  seen ← counted_attributes pool (known_of_class pool) no_class_attribute
  give (class_named flags pool names fields methods seen)

-- what stands behind access_flags (JVMS 4.1)
unfoldable pub behind_flags : List Entry → ℕ → FormatReader Class
behind_flags pool flags = do
  name ← item u2 (class_at pool)
  super_name ← item u2 (class_at pool)
  interfaces ← read_interfaces pool
  behind_names pool flags (record { name = name; super_name = super_name; interfaces = interfaces })
