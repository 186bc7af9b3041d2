-- Types while a program runs: the default values, what is stored of a value, and which types are below others
-- (JVMS 2.3, 2.4, 6.5).
use Rattle.std.specs.Prelude.{ℕ, zero, suc, ◌+◌, ◌-◌, ℤ, pos, Bool, true, false, ◌==◌, List, [], ◌∷◌, codes, map}
use Rattle.std.specs.Prelude.{Option}
use Rattle.std.specs.Prelude.{if◌then◌else◌}
use Rattle.std.specs.Int.{w8, w16, int_rem_euclid, int_wrap}
use Rattle.std.specs.List.{list_any}
use Rattle.std.specs.Option.{option_map}
use Rattle.std.specs.Result.{result_ok}
use Rattle.jv_base.specs.Descriptors.{read_field, read_method}
use Rattle.jv_base.specs.Names.{is_text}
use Rattle.jv_base.specs.declared.types.Base.{Base}
use Rattle.jv_base.specs.declared.types.Base.TheVariants as base
use Rattle.jv_base.specs.declared.types.FieldType.{FieldType}
use Rattle.class_model.specs.declared.op.Elem.{Elem}
use Rattle.class_model.specs.declared.op.Elem.TheVariants as elem
use Rattle.class_model.specs.declared.op.Kind.{Kind}
use Rattle.class_model.specs.declared.op.Kind.TheVariants as kind
use Rattle.lib_table.specs.Library.{object, serializable}
use Rattle.jvm_model.specs.Value.{Value, Int, Long, Null}

-- ---- computational types (JVMS 2.11.1, table 2.11.1-B)

-- of a type without dimensions; float and double, which are left out, count as int here, and nothing rests on it
abbrev pub kind_of_base : Base → Kind
kind_of_base base.Long = kind.Long
kind_of_base (base.Class name) = kind.Ref
kind_of_base _ = kind.Int

-- the computational type of a type
abbrev pub kind_of : FieldType → Kind
kind_of ty = if ty.dims == 0 then kind_of_base ty.base else kind.Ref

-- the value with which a variable of a type begins: zero, or null (JVMS 2.3, 2.4)
abbrev pub default_of : Kind → Value
default_of kind.Int = Int (pos 0)
default_of kind.Long = Long (pos 0)
default_of kind.Ref = Null

-- the component type of the arrays that an instruction on arrays works with; a boolean array is one of bytes to it
-- (JVMS 6.5.baload, 6.5.bastore)
abbrev pub is_component_base : Elem → Base → Bool
is_component_base elem.Int base.Int = true
is_component_base elem.Long base.Long = true
is_component_base elem.Byte base.Byte = true
is_component_base elem.Byte base.Boolean = true
is_component_base elem.Char base.Char = true
is_component_base elem.Short base.Short = true
is_component_base elem.Ref (base.Class name) = true
is_component_base _ _ = false

-- the instruction works with arrays of references
abbrev pub is_reference_elem : Elem → Bool
is_reference_elem elem.Ref = true
is_reference_elem _ = false

-- the instruction works with arrays of this component type
abbrev pub is_component : Elem → FieldType → Bool
is_component e ty = if ty.dims == 0 then is_component_base e ty.base else is_reference_elem e

-- the computational type of what such an instruction moves
abbrev pub kind_of_elem : Elem → Kind
kind_of_elem elem.Long = kind.Long
kind_of_elem elem.Ref = kind.Ref
kind_of_elem _ = kind.Int

-- ---- what is stored

-- what is stored of an int: the low bits of a byte, a char or a short (JVMS 6.5.bastore, 6.5.castore, 6.5.sastore), and
-- the low bit of a boolean; of fields too (the project's own)
abbrev pub narrowed : Base → ℤ → ℤ
narrowed base.Boolean z = int_rem_euclid z (pos 2)
narrowed base.Byte z = int_wrap w8 z
narrowed base.Char z = int_rem_euclid z (pos 65536)
narrowed base.Short z = int_wrap w16 z
narrowed _ z = z

-- what a field or a component of this type holds when a value was stored
abbrev pub stored : FieldType → Value → Value
stored ty (Int z) = Int (if ty.dims == 0 then narrowed ty.base z else z)
stored ty v = v

-- ---- descriptors (JVMS 4.3)

-- the type of a field by its descriptor (JVMS 4.3.2)
abbrev pub field_type : List ℕ → Option FieldType
field_type descriptor = result_ok (read_field descriptor)

-- its computational type
abbrev pub field_kind : List ℕ → Option Kind
field_kind descriptor = option_map kind_of (field_type descriptor)

-- the computational types of a method's arguments by its descriptor (JVMS 4.3.3)
abbrev pub argument_kinds : List ℕ → Option (List Kind)
argument_kinds descriptor = option_map (λ ty. map kind_of ty.args) (result_ok (read_method descriptor))

-- ---- array types

-- the type of a class
abbrev pub class_type : List ℕ → FieldType
class_type name = record { dims = 0; base = base.Class name }

-- the type of arrays with such components
abbrev pub array_of : FieldType → FieldType
array_of ty = record { dims = ty.dims + 1; base = ty.base }

-- the component type of an array type (JVMS 2.4)
abbrev pub component_of : FieldType → FieldType
component_of ty = record { dims = ty.dims - 1; base = ty.base }

-- ---- subtypes (JVMS 6.5.checkcast, 6.5.instanceof, 6.5.aastore)

-- two primitive types are one
abbrev pub same_primitive : Base → Base → Bool
same_primitive base.Boolean base.Boolean = true
same_primitive base.Byte base.Byte = true
same_primitive base.Char base.Char = true
same_primitive base.Short base.Short = true
same_primitive base.Int base.Int = true
same_primitive base.Long base.Long = true
same_primitive base.Float base.Float = true
same_primitive base.Double base.Double = true
same_primitive _ _ = false

-- the classes and interfaces that arrays are of (JLS 4.10.3)
abbrev pub is_above_arrays : Base → Bool
is_above_arrays (base.Class name) = list_any (is_text name) (object ∷ codes "java/lang/Cloneable" ∷ serializable ∷ [])
is_above_arrays _ = false

module _ (is_sub : List ℕ → List ℕ → Bool) where
  -- of types without dimensions
  abbrev pub is_base_below : Base → Base → Bool
  is_base_below (base.Class a) (base.Class b) = is_sub a b
  is_base_below a b = same_primitive a b

  -- an object of the first type is one of the second: a class by its supertypes, an array by its components
  abbrev pub is_array_below : ℕ → Base → ℕ → Base → Bool
  is_array_below (suc m) a (suc n) b = is_array_below m a n b
  is_array_below (suc m) a zero b = is_above_arrays b
  is_array_below zero a (suc n) b = false
  is_array_below zero a zero b = is_base_below a b

  -- of types (JLS 4.10.2, 4.10.3; JVMS 6.5.checkcast, 6.5.instanceof, 6.5.aastore)
  abbrev pub is_type_below : FieldType → FieldType → Bool
  is_type_below a b = is_array_below a.dims a.base b.dims b.base
