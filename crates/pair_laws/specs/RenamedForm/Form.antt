-- New names that are names as the format wants them (JVMS 4.2), and that keep the members of a class apart (JVMS 4.5,
-- 4.6).
use Rattle.std.specs.Prelude.{◌≡◌, ℕ, Bool, true, List, IfSome, IsTrue, IsUtf8, codes}
use Rattle.std.specs.List.{AllByRecursion}
use Rattle.jv_base.specs.Names.{is_class_name, is_member_name, is_method_name}
use Rattle.jv_base.specs.Types.{method_text}
use Rattle.jv_base.specs.declared.types.Base.TheVariants as base
use Rattle.jv_base.specs.declared.types.FieldType.{FieldType}
use Rattle.jv_base.specs.declared.types.MethodType.{MethodType}
use Rattle.class_model.specs.Flags.{is_clinit, is_init}
use Rattle.class_model.specs.Members.{FieldsDiffer, MethodsDiffer}
use Rattle.class_model.specs.WellFormed.{IsName}
use Rattle.class_model.specs.declared.class.Class.{Class}
use Rattle.class_model.specs.declared.class.Field.{Field}
use Rattle.class_model.specs.declared.class.Method.{Method}
use Rattle.class_rename.specs.Names.{Names}
use Rattle.class_rename.specs.Renamed.{renamed_field, renamed_method}

-- a name becomes a name of its kind (JVMS 4.2.1, 4.2.2); initialisation methods stay, and no other method becomes one
-- (JVMS 2.9); so does the type of constants that are texts (JVMS 4.7.2)
pub record KeepsForm (names : Names) : Type 0 where
  pub class_text : (a : List ℕ) → IsUtf8 a → IsUtf8 (names.class a)
  pub class_name : (a : List ℕ) → IsTrue (is_class_name a) → IsTrue (is_class_name (names.class a))
  pub field_name : (a : List ℕ) → IsName is_member_name a → IsName is_member_name (names.field a)
  pub method_name : (a d : List ℕ) → IsName is_method_name a → IsName is_method_name (names.method a d)
  pub init : (a d : List ℕ) → is_init (names.method a d) ≡ is_init a
  pub clinit : (a d : List ℕ) → is_clinit (names.method a d) ≡ is_clinit a
  pub string : names.class (codes "java/lang/String") ≡ codes "java/lang/String"

-- two fields, or methods, of the class that differ by name or descriptor do so under new names (JVMS 4.5, 4.6)
pub record KeepsApart (names : Names) (c : Class) : Type 0 where
  pub fields : AllByRecursion (λ (one : Field). AllByRecursion
      (λ (other : Field). FieldsDiffer one other
      → FieldsDiffer (renamed_field names one) (renamed_field names other)) c.fields) c.fields
  pub methods : AllByRecursion (λ (one : Method). AllByRecursion
      (λ (other : Method). MethodsDiffer one other
      → MethodsDiffer (renamed_method names one) (renamed_method names other)) c.methods) c.methods

-- the class that a type names, if it names one, is known (the project's own)
abbrev pub IsKnownType : (List ℕ → Bool) → FieldType → Type 0
IsKnownType known ty = (name : List ℕ) → ty.base ≡ base.Class name → known name ≡ true

-- so are those that the type of a method names (the project's own)
pub record IsKnownMethodType (known : List ℕ → Bool) (ty : MethodType) : Type 0 where
  pub arguments : AllByRecursion (IsKnownType known) ty.args
  pub returned : IfSome ty.ret (IsKnownType known)

-- the types of members name known classes alone (the project's own)
pub record TypesAreKnown (known : List ℕ → Bool) (c : Class) : Type 0 where
  pub fields : AllByRecursion (λ (f : Field). IsKnownType known f.ty) c.fields
  pub methods : AllByRecursion (λ (m : Method). IsKnownMethodType known m.ty) c.methods

-- no two known classes come to one name, types of members name known classes, and no two names of fields, or of methods
-- with one descriptor, come to one (the project's own: what is renamed is told apart as before)
pub record TellsApart (names : Names) (known : List ℕ → Bool) (c : Class) : Type 0 where
  pub class : (a b : List ℕ) → known a ≡ true → known b ≡ true → names.class a ≡ names.class b → a ≡ b
  pub types : TypesAreKnown known c
  pub fields : AllByRecursion
      (λ (one : Field). AllByRecursion
      (λ (other : Field). names.field one.name ≡ names.field other.name → one.name ≡ other.name) c.fields) c.fields
  pub methods : AllByRecursion
      (λ (one : Method). AllByRecursion
      (λ (other : Method). method_text one.ty ≡ method_text other.ty
      → names.method one.name (method_text one.ty) ≡ names.method other.name (method_text other.ty)
      → one.name ≡ other.name) c.methods) c.methods
