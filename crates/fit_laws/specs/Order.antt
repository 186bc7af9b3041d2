-- The order of classes, as held types see it. Each field is a fact on classes alone (JVMS 4.10.1.2, 5.3.5).
use Rattle.std.specs.Prelude.{◌≡◌, ℕ, true, false, is_some, List, codes}
use Rattle.jv_base.specs.declared.types.Base.TheVariants as base
use Rattle.jv_base.specs.declared.types.FieldType.{FieldType}
use Rattle.class_model.specs.declared.class.Class.{Class}
use Rattle.class_pool.specs.Hierarchy.{class_named}
use Rattle.jvm_model.specs.Types.{array_of}
use Rattle.jvm_model.specs.Heap.{string, string_builder}
use Rattle.set_view.specs.ViewOf.{shape_of}
use Rattle.type_verifier.specs.Assignable.{class_type, is_above_arrays, is_class_assignable}
use Rattle.fit_laws.specs.Held.{erased_name, is_held, is_interface_name}

pub record IsOrdered (classes : List Class) : Type 0 where
  -- what is below a class is below each that it is assignable to, where interfaces count as Object
  pub goes_on : (a b c : List ℕ) → is_some (class_named classes a) ≡ true
      → is_class_assignable classes a (erased_name classes b) ≡ true → is_class_assignable classes b c ≡ true
      → is_class_assignable classes a (erased_name classes c) ≡ true
  -- each class that is there is below itself
  pub itself : (a : List ℕ) → is_some (class_named classes a) ≡ true
      → is_class_assignable classes a (erased_name classes a) ≡ true
  -- what stands above arrays is assignable to nothing else (JVMS 4.10.1.2, isArrayInterface)
  pub above_on : (a b : List ℕ) → is_above_arrays (base.Class (erased_name classes a)) ≡ true
      → is_class_assignable classes a b ≡ true → is_above_arrays (base.Class (erased_name classes b)) ≡ true
  -- what the machine finds below a class is held by it (JVMS 6.5.checkcast, 6.5.instanceof)
  pub below : (a b : List ℕ) → (shape_of classes).is_sub a b ≡ true
      → is_held classes (class_type a) (class_type b) ≡ true
  -- Object is a class (JVMS 4.1)
  pub object : is_interface_name classes (codes "java/lang/Object") ≡ false

-- a type all of whose objects are instances: no array, no string and nothing that builds strings is of it
pub record HasInstances (classes : List Class) (ty : FieldType) : Type 0 where
  pub no_array : (component : FieldType) → is_held classes (array_of component) ty ≡ false
  pub no_string : is_held classes (class_type string) ty ≡ false
  pub no_builder : is_held classes (class_type string_builder) ty ≡ false
