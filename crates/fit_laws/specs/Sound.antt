-- What an accepted set gives beside the types of its codes. Each field is a fact on the set alone: no run is in it.
use Rattle.std.specs.Prelude.{◌≡◌, ℕ, true, List, [], Option, Some, slice_get}
use Rattle.jv_base.specs.Names.{is_text}
use Rattle.class_model.specs.declared.class.Class.{Class}
use Rattle.class_model.specs.declared.code.Ins.{Ins}
use Rattle.class_model.specs.declared.frame.VType.{VType}
use Rattle.jvm_model.specs.Exceptions.{Exception, exception_class}
use Rattle.jvm_model.specs.Heap.{Object, string, string_builder}
use Rattle.jvm_model.specs.Value.{Key, Value}
use Rattle.set_view.specs.ViewOf.{shape_of}
use Rattle.type_verifier.specs.Assignable.{class_type}
use Rattle.type_verifier.specs.Environment.{Environment}
use Rattle.fit_laws.specs.Frames.{Begins, Environs}
use Rattle.fit_laws.specs.Held.{IsConcrete, is_held}
use Rattle.fit_laws.specs.Meaning.{IsMeant}
use Rattle.fit_laws.specs.Order.{HasInstances, IsOrdered}
use Rattle.fit_laws.specs.RowTypes.{print_stream}
use Rattle.fit_laws.specs.Values.{FitsKey, throwable}

-- the classes of the library of which the machine knows more (Java SE 8 API)
pub record HasLibrary (classes : List Class) : Type 0 where
  -- of String and StringBuilder objects are made, and nothing else is below them: they are final
  pub strings : IsConcrete classes string
  pub only_strings : (a : List ℕ) → is_held classes (class_type a) (class_type string) ≡ true
      → is_text a string ≡ true
  pub builders : IsConcrete classes string_builder
  pub only_builders : (a : List ℕ) → is_held classes (class_type a) (class_type string_builder) ≡ true
      → is_text a string_builder ≡ true
  -- streams and exceptions are instances; System.out is a stream
  pub streams : HasInstances classes (class_type print_stream)
  pub stream : IsConcrete classes print_stream
  pub exceptions : HasInstances classes throwable
  -- of the class of each exception that the machine throws objects are made, and it is below Throwable (JVMS 2.10)
  pub made : (e : Exception) → IsConcrete classes (exception_class e)
  pub thrown : (e : Exception) → is_held classes (class_type (exception_class e)) throwable ≡ true

-- the fields and methods that initialise a class (JVMS 4.7.2, 5.5)
pub record HasInitialisers (classes : List Class) : Type 0 where
  -- a class or interface initialisation method begins without arguments (JVMS 2.9)
  pub clinit : (class : List ℕ) (k : Key) → (shape_of classes).clinit class ≡ Some k → (heap : List Object)
      → (given : Option VType) × Begins classes heap given k []
  -- a ConstantValue is of its field's type (JVMS 4.7.2)
  pub constants : (heap : List Object) (k : Key) (v : Value) → (shape_of classes).constant k ≡ Some v
      → FitsKey classes heap k v

-- the facts that every move of the machine needs
pub record IsSound (classes : List Class) : Type 0 where
  -- the order of classes (JVMS 4.10.1.2)
  pub ordered : IsOrdered classes
  -- the library
  pub library : HasLibrary classes
  -- initialisation (JVMS 5.5)
  pub initialisers : HasInitialisers classes
  -- an object of a class is one of its superclass (JVMS 4.10.1.2)
  pub super : (k : Key) (env : Environment) → Environs classes k env
      → is_held classes (class_type env.class.name) (class_type env.class.super_name) ≡ true
  -- each instruction of each method names what means something (JVMS 5.4.3, 6.5)
  pub meaning : (k : Key) (env : Environment) → Environs classes k env → (n : ℕ) (i : Ins)
      → slice_get env.code.ins n ≡ Some i → IsMeant classes k env i.op
