-- Which types of objects are of which types: the type checker's own rule, in which an interface counts as Object
-- (JVMS 4.10.1.2). Assignability alone isn't enough: int[][] is assignable to Object[], and that to J[] for an
-- interface J, but int[][] isn't to J[].
use Rattle.std.specs.Prelude.{◌≡◌, ℕ, Bool, true, false, is_some, List, Some, codes, if◌then◌else◌}
use Rattle.std.specs.Option.{option_map_or}
use Rattle.jv_base.specs.declared.types.Base.{Base}
use Rattle.jv_base.specs.declared.types.Base.TheVariants as base
use Rattle.jv_base.specs.declared.types.FieldType.{FieldType}
use Rattle.class_model.specs.declared.class.Class.{Class}
use Rattle.class_pool.specs.Hierarchy.{class_named}
use Rattle.class_pool.specs.Resolution.{is_interface_in}
use Rattle.class_pool.specs.declared.id.ClassId.{ClassId}
use Rattle.link_check.specs.Profile.{is_abstract_class}
use Rattle.type_verifier.specs.Assignable.{is_java_assignable}

module _ (classes : List Class) where
  -- the name is that of an interface (JVMS 4.1)
  abbrev pub is_interface_name : List ℕ → Bool
  is_interface_name name = option_map_or (is_interface_in classes) (class_named classes name) false

  -- Object in place of an interface, as which the type checker treats it (JVMS 4.10.1.2)
  abbrev pub erased_name : List ℕ → List ℕ
  erased_name name = if is_interface_name name then codes "java/lang/Object" else name

  -- the same of a type without its dimensions (JVMS 4.10.1.2)
  abbrev pub erased_base : Base → Base
  erased_base (base.Class name) = base.Class (erased_name name)
  erased_base b = b

  -- the same of a type (JVMS 4.10.1.2)
  abbrev pub erased : FieldType → FieldType
  erased ty = record { dims = ty.dims; base = erased_base ty.base }

  -- an object of the first type is one of the second (JVMS 4.10.1.2, isJavaAssignable)
  abbrev pub is_held : FieldType → FieldType → Bool
  is_held from to = is_java_assignable classes from (erased to)

  -- the class that a type without dimensions names is there (JVMS 5.3.5)
  abbrev pub is_base_there : Base → Bool
  is_base_there (base.Class name) = is_some (class_named classes name)
  is_base_there b = true

  -- the class of a type, or of the elements of an array, is there (JVMS 5.3.5)
  abbrev pub is_there : FieldType → Bool
  is_there ty = is_base_there ty.base

  -- a class of which objects are made: it is there, and is neither an interface nor abstract (JVMS 6.5.new)
  pub record IsConcrete (class : List ℕ) : Type 0 where
    pub id : ClassId
    pub named : class_named classes class ≡ Some id
    pub no_interface : is_interface_in classes id ≡ false
    pub not_abstract : is_abstract_class classes id ≡ false
