-- The members that a class declares (JVMS 4.5, 4.6): of a program class its fields and then its methods, of a library
-- class those of the table.
use Rattle.std.specs.Prelude.{ℕ, ◌+◌, Bool, ◌&&◌, List, length, Option, Some, None, slice_get}
use Rattle.std.specs.List.{position}
use Rattle.std.specs.Option.{option_map, option_and_then}
use Rattle.jv_base.specs.Names.{is_text}
use Rattle.jv_base.specs.Types.{field_text, method_text}
use Rattle.class_model.specs.declared.class.Class.{Class}
use Rattle.class_model.specs.declared.class.Field.{Field}
use Rattle.class_model.specs.declared.class.Method.{Method}
use Rattle.lib_table.specs.Lookups as table
use Rattle.class_pool.specs.declared.id.ClassId.{ClassId}
use Rattle.class_pool.specs.declared.id.ClassId.TheVariants.{Prog, Lib}

-- the field has this name and this descriptor (JVMS 4.5)
abbrev pub is_field : List ℕ → List ℕ → Field → Bool
is_field name descriptor f = is_text f.name name && is_text descriptor (field_text f.ty)

-- the method has this name and this descriptor (JVMS 4.6)
abbrev pub is_method : List ℕ → List ℕ → Method → Bool
is_method name descriptor m = is_text m.name name && is_text descriptor (method_text m.ty)

-- the number of the method, where there is no such field (JVMS 4.5, 4.6; the numbers are the project's own)
abbrev pub or_method : Class → List ℕ → List ℕ → Option ℕ → Option ℕ
or_method c name descriptor (Some n) = Some n
or_method c name descriptor None = option_map (λ n. length c.fields + n)
    (position (is_method name descriptor) c.methods)

-- the number of the member with this name and this descriptor (JVMS 4.5, 4.6)
abbrev pub member_named : Class → List ℕ → List ℕ → Option ℕ
member_named c name descriptor = or_method c name descriptor (position (is_field name descriptor) c.fields)

-- the number of the member of this name and descriptor that a class declares (JVMS 4.5, 4.6)
abbrev pub declared_at : List Class → ClassId → List ℕ → List ℕ → Option ℕ
declared_at classes (Prog n) name descriptor = option_and_then (λ c. member_named c name descriptor)
    (slice_get classes n)
declared_at classes (Lib id) name descriptor = option_map (λ m. m.at)
    (table.member_named (table.class_at id).members name descriptor)
