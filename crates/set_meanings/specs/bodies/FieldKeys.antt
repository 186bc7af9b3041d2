-- The fields of a class by their names (only the proof of the bodies needs it).
use Rattle.std.specs.Prelude.{ℕ, List}
use Rattle.jv_base.specs.Types.{field_text}
use Rattle.class_model.specs.declared.class.Field.{Field}
use Rattle.jvm_model.specs.Value.{Key}

-- a field of a class
abbrev pub field_key : List ℕ → Field → Key
field_key class f = record { class = class; name = f.name; descriptor = field_text f.ty }
