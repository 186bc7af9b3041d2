-- Which values fit which types (JVMS 2.3, 2.4, 4.10.1.2). There are no ranges of small numbers: an int that stands for
-- a char may be any.
use Rattle.std.specs.Prelude.{◌≡◌, ℕ, ℤ, Bool, true, false, not, List, Some, slice_get, codes, IfSome}
use Rattle.std.specs.List.{AllByRecursion}
use Rattle.jv_base.specs.Names.{is_text}
use Rattle.jv_base.specs.declared.types.FieldType.{FieldType}
use Rattle.class_model.specs.Frames.{vtype_of}
use Rattle.class_model.specs.declared.class.Class.{Class}
use Rattle.class_model.specs.declared.frame.VType.{VType}
use Rattle.class_model.specs.declared.frame.VType.TheVariants as vtype
use Rattle.type_verifier.specs.Assignable.{class_type}
use Rattle.type_verifier.specs.Effects.{class_made_at}
use Rattle.type_verifier.specs.Environment.{Environment}
use Rattle.jvm_model.specs.Heap.{Object, Instance, Array, World, string, string_builder, type_of}
use Rattle.jvm_model.specs.Types.{field_type}
use Rattle.jvm_model.specs.Value.{Key, Value, Int, Long, Null, Ref, Lit}
use Rattle.fit_laws.specs.Held.{IsConcrete, is_held, is_there}

-- the type of what is thrown (JVMS 2.10)
abbrev pub throwable : FieldType
throwable = class_type (codes "java/lang/Throwable")

-- An instance of the class of strings is one that no constructor was called on, since a program may call none of them:
-- it is no string, so it fits no type of initialised objects (JVMS 6.5.new; that the library has no such constructor is
-- the project's own).
abbrev pub is_whole : Object → Bool
is_whole (Instance class fields message cause) = not (is_text class string)
is_whole _ = true

module _ (classes : List Class) (heap : List Object) where
  -- an object is one of a type (JVMS 2.4)
  pub record FitsObject (ty : FieldType) (o : Object) : Type 0 where
    -- it isn't a string without text
    pub whole : is_whole o ≡ true
    -- its class is there (JVMS 5.3.5)
    pub there : is_there classes (type_of o) ≡ true
    -- it is of the type (JVMS 4.10.1.2)
    pub held : is_held classes (type_of o) ty ≡ true

  -- a reference fits a type of references: null always, a literal as a string, another one by its object (JVMS 2.4)
  abbrev pub FitsReference : FieldType → Value → Type 0
  FitsReference ty Null = Unit {0}
  FitsReference ty (Lit units) = is_held classes (class_type string) ty ≡ true
  FitsReference ty (Ref n) = (o : Object) × (slice_get heap n ≡ Some o) × FitsObject ty o
  FitsReference ty _ = ⊥

  -- a value fits a type other than one of an object that no constructor was called on: everything fits Top, numbers fit
  -- themselves (JVMS 4.10.1.2)
  abbrev pub FitsKnown : VType → Value → Type 0
  FitsKnown vtype.Top v = Unit {0}
  FitsKnown vtype.Int v = (z : ℤ) × (v ≡ Int z)
  FitsKnown vtype.Long v = (z : ℤ) × (v ≡ Long z)
  FitsKnown vtype.Null v = v ≡ Null
  FitsKnown (vtype.Object ty) v = FitsReference ty v
  FitsKnown _ v = ⊥

  -- a value fits the type of a field, of a parameter, or of the components of an array (JVMS 2.3, 2.4)
  abbrev pub FitsType : FieldType → Value → Type 0
  FitsType ty v = FitsKnown (vtype_of ty) v

  -- the same of a field, by its descriptor (JVMS 4.3.2)
  abbrev pub FitsKey : Key → Value → Type 0
  FitsKey k v = IfSome (field_type k.descriptor) (λ ty. FitsType ty v)

  -- What an instance of a class holds fits. Its fields are a function of keys, so each key has a value that fits,
  -- whether the class has such a field or not (JVMS 2.3, 2.4).
  pub record FitsInstance (class : List ℕ) (fields : Key → Value) (message cause : Value) : Type 0 where
    -- of its class objects are made (JVMS 6.5.new)
    pub made : IsConcrete classes class
    -- what builds strings is no instance to the machine (the project's own)
    pub no_builder : is_text class string_builder ≡ false
    -- what each field holds fits the field's type (JVMS 4.3.2)
    pub fields_fit : (k : Key) → FitsKey k (fields k)
    -- the message of an exception is a string or null (Java SE 8 API, Throwable)
    pub message_fits : FitsReference (class_type string) message
    -- its cause is an exception or null (Java SE 8 API, Throwable)
    pub cause_fits : FitsReference throwable cause

  -- what an object holds fits its type (JVMS 2.4)
  abbrev pub FitsWithin : Object → Type 0
  FitsWithin (Instance class fields message cause) = FitsInstance class fields message cause
  FitsWithin (Array component values) = AllByRecursion (FitsType component) values
  FitsWithin _ = Unit {0}

-- the heap and the static fields fit (JVMS 2.5.3, 2.5.4)
pub record FitsWorld (classes : List Class) (w : World) : Type 0 where
  -- each object of the heap holds what fits
  pub objects : (n : ℕ) (o : Object) → slice_get w.heap n ≡ Some o → FitsWithin classes w.heap o
  -- each static field holds what fits its type (JVMS 4.3.2)
  pub statics : (k : Key) → FitsKey classes w.heap k (w.statics k)

-- the object with this number is thrown (JVMS 2.10)
pub record IsThrown (classes : List Class) (heap : List Object) (n : ℕ) : Type 0 where
  pub fits : FitsReference classes heap throwable (Ref n)

-- ---- in a method

module _ (env : Environment) (heap : List Object) where
  -- an object of just the class that the `new` with this number names (JVMS 4.10.1.2, uninitialized)
  pub record IsMadeAt (at n : ℕ) : Type 0 where
    pub name : List ℕ
    pub new : class_made_at env.code at ≡ Some name
    pub object : Object
    pub there : slice_get heap n ≡ Some object
    pub type : type_of object ≡ class_type name

  -- A value fits a type of the type checker. The machine doesn't know whether a constructor was called on an object, so
  -- one that waits for that has its type already: of `this` that of the own class, of another one just the class that
  -- was named (JVMS 4.10.1.2).
  abbrev pub FitsValue : VType → Value → Type 0
  FitsValue vtype.UninitThis v =
      (n : ℕ) × (v ≡ Ref n) × FitsReference env.classes heap (class_type env.class.name) v
  FitsValue (vtype.Uninit at) v = (n : ℕ) × (v ≡ Ref n) × IsMadeAt at n
  FitsValue ty v = FitsKnown env.classes heap ty v
