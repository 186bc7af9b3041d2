-- Reading fields and methods from left to right (JVMS 4.5, 4.6).
use Rattle.std.specs.Prelude.{ℕ, zero, suc, Bool, true, false, ◌&&◌, ◌||◌, not, List, [], ◌∷◌, codes, Option, Some}
use Rattle.std.specs.Prelude.{None, Ok, Err, if◌then◌else◌}
use Rattle.std.specs.List.{list_any}
use Rattle.jv_base.specs.Names.{is_text, is_member_name, is_method_name}
use Rattle.jv_base.specs.Types.{field_text, method_text}
use Rattle.jv_base.specs.declared.types.FieldType.{FieldType}
use Rattle.jv_base.specs.declared.types.MethodType.{MethodType}
use Rattle.format_reading.specs.Reader.{FormatReader, u2, bytes, item, give, here, settle, ◌>>=◌}
use Rattle.format_reading.specs.declared.fault.FormatKind.TheVariants as bad
use Rattle.class_model.specs.declared.pool.Entry.{Entry}
use Rattle.class_model.specs.declared.class.Constant.{Constant}
use Rattle.class_model.specs.declared.class.Field.{Field}
use Rattle.class_model.specs.declared.class.Method.{Method}
use Rattle.class_model.specs.declared.class.LeftKind.{LeftKind}
use Rattle.class_model.specs.declared.class.LeftKind.TheVariants as left
use Rattle.class_model.specs.Flags.{flags_of}
use Rattle.class_model.specs.Flags.{field_mask, method_mask, defined_flags, is_static, is_native, has_body}
use Rattle.class_model.specs.Flags.{are_field_flags}
use Rattle.class_model.specs.Flags.{are_method_flags}
use Rattle.class_model.specs.Frames.{initial_locals}
use Rattle.class_model.specs.Lookups.{test, good_text_at}
use Rattle.class_model.specs.MemberTypes.{field_type_at, method_type_at}
use Rattle.class_model.specs.ReadingAttributes.{counted_attributes, once, exceptions, constant_value}
use Rattle.class_model.specs.ReadingCodeAttribute.{Body, is_there, read_code}

-- flags that pass a test (JVMS 4.1, 4.5, 4.6)
abbrev pub read_flags : (ℕ → Bool) → FormatReader ℕ
read_flags passes = item u2 (λ flags. if passes flags then Ok flags else Err bad.BadFlags)

-- a name with the descriptor of its member (JVMS 4.5, 4.6)
abbrev pub Signature : Type 0
Signature = List ℕ × List ℕ

-- both the names and the descriptors are equal, by which members of a class differ (JVMS 4.5, 4.6)
abbrev pub same_signature : Signature → Signature → Bool
same_signature one other = is_text one.0 other.0 && is_text one.1 other.1

-- the member at an offset is none of those before (JVMS 4.5, 4.6)
abbrev pub fresh : ℕ → List Signature → Signature → FormatReader (Unit {0})
fresh at before signature = settle at (test bad.Repeated (not (list_any (same_signature signature) before)))

-- ---- fields

-- what was seen of a field's attributes (JVMS 4.5)
pub record FieldSeen : Type 0 where
  pub constant : Option (Option Constant)
  pub synthetic : Bool
  pub deprecated : Bool

-- what was seen before the first attribute of a field (JVMS 4.5)
abbrev pub no_field_attribute : FieldSeen
no_field_attribute = record { constant = None; synthetic = false; deprecated = false }

-- contents of a length that are passed over (JVMS 4.7)
abbrev pub dropped : {S : Type 0} → ℕ → S → FormatReader S
dropped n seen = do
  skipped ← bytes n
  give seen

-- ConstantValue counts on static fields alone; elsewhere its contents are passed over (JVMS 4.7.2)
abbrev pub constant_seen : List Entry → FieldType → FieldSeen → FormatReader FieldSeen
constant_seen pool ty seen = do
  value ← constant_value pool ty
  give (record seen { constant = Some value })

-- the attributes of a field that are read, each at most once (JVMS 4.7.2, 4.7.8, 4.7.15); all others are passed over
abbrev pub known_of_field : List Entry → Bool → FieldType → ℕ → List ℕ → ℕ → FieldSeen → Option (FormatReader FieldSeen)
known_of_field pool static ty at name n seen =
    if is_text name (codes "ConstantValue") then Some (once at (is_there seen.constant)
    (if static then constant_seen pool ty seen else dropped n (record seen { constant = Some None })))
    else if is_text name (codes "Synthetic") then Some
    (once at seen.synthetic (give (record seen { synthetic = true })))
    else if is_text name (codes "Deprecated") then Some
    (once at seen.deprecated (give (record seen { deprecated = true })))
    else None

-- a field without ConstantValue, or with one that is left out or passed over, has no constant (JVMS 4.7.2)
abbrev pub constant_of : Option (Option Constant) → Option Constant
constant_of (Some value) = value
constant_of None = None

-- the field of these items; flags that mean nothing for a field are dropped (JVMS 4.5, table 4.5-A)
abbrev pub field_of : ℕ → List ℕ → FieldType → FieldSeen → Field
field_of flags name ty seen = record {
  flags = flags_of (defined_flags field_mask flags);
  name = name;
  ty = ty;
  constant = constant_of seen.constant;
  synthetic = seen.synthetic;
  deprecated = seen.deprecated;
}

-- a field behind those of these signatures (JVMS 4.5)
unfoldable pub read_field_info : List Entry → Bool → List Signature → FormatReader (Field × Signature)
read_field_info pool in_interface before = do
  at ← here
  flags ← read_flags (are_field_flags in_interface)
  name ← item u2 (good_text_at bad.BadName is_member_name pool)
  ty ← item u2 (field_type_at pool)
  alone ← fresh at before (name, field_text ty)
  seen ← counted_attributes pool (known_of_field pool (is_static flags) ty) no_field_attribute
  give (field_of flags name ty seen, (name, field_text ty))

-- so many fields behind those of these signatures, each unlike all before it (JVMS 4.1, 4.5)
unfoldable pub read_fields : ℕ → List Entry → Bool → List Signature → FormatReader (List Field)
read_fields zero pool in_interface before = give []
read_fields (suc n) pool in_interface before = do
  first ← read_field_info pool in_interface before
  others ← read_fields n pool in_interface (first.1 ∷ before)
  give (first.0 ∷ others)

-- ---- methods

-- what was seen of a method's attributes (JVMS 4.6)
pub record MethodSeen : Type 0 where
  pub body : Option Body
  pub throws : Option (List (List ℕ))
  pub synthetic : Bool
  pub deprecated : Bool

-- what was seen before the first attribute of a method (JVMS 4.6)
abbrev pub no_method_attribute : MethodSeen
no_method_attribute = record { body = None; throws = None; synthetic = false; deprecated = false }

-- the classes of an attribute Exceptions are noted (JVMS 4.7.5)
abbrev pub exceptions_seen : List Entry → MethodSeen → FormatReader MethodSeen
exceptions_seen pool seen = do
  classes ← exceptions pool
  give (record seen { throws = Some classes })

-- the contents of an attribute Code are noted (JVMS 4.7.3)
abbrev pub code_seen : FormatReader Body → MethodSeen → FormatReader MethodSeen
code_seen code seen = do
  body ← code
  give (record seen { body = Some body })

-- a Code where there may be none is at fault itself, before its contents (JVMS 4.7.3)
abbrev pub one_code : ℕ → Bool → FormatReader Body → MethodSeen → FormatReader MethodSeen
one_code at wanted code seen = do
  allowed ← settle at (test bad.BadAttribute wanted)
  once at (is_there seen.body) (code_seen code seen)

-- the attributes of a method that are read, each at most once (JVMS 4.7.3, 4.7.5, 4.7.8, 4.7.15); others are passed
-- over
abbrev pub known_of_method : List Entry → Bool → (ℕ → FormatReader Body) → ℕ → List ℕ → ℕ → MethodSeen
    → Option (FormatReader MethodSeen)
known_of_method pool wanted code at name n seen =
    if is_text name (codes "Code") then Some (one_code at wanted (code at) seen)
    else if is_text name (codes "Exceptions") then Some (once at (is_there seen.throws) (exceptions_seen pool seen))
    else if is_text name (codes "Synthetic") then Some
    (once at seen.synthetic (give (record seen { synthetic = true })))
    else if is_text name (codes "Deprecated") then Some
    (once at seen.deprecated (give (record seen { deprecated = true })))
    else None

-- the code, with what is left out: a native method is
-- (JVMS 4.7.3; that native methods are left out is the project's own)
abbrev pub body_of : ℕ → Option Body → Body
body_of flags (Some body) = body
body_of flags None = (None, if is_native flags then Some left.Flag else None)

-- a method without Exceptions declares none (JVMS 4.7.5)
abbrev pub throws_of : Option (List (List ℕ)) → List (List ℕ)
throws_of (Some classes) = classes
throws_of None = []

-- the method of these items; flags that mean nothing for a method are dropped (JVMS 4.6, table 4.6-A)
abbrev pub method_of : ℕ → List ℕ → MethodType → MethodSeen → Method
method_of flags name ty seen = record {
  flags = flags_of (defined_flags method_mask flags);
  name = name;
  ty = ty;
  code = (body_of flags seen.body).0;
  throws = throws_of seen.throws;
  synthetic = seen.synthetic;
  deprecated = seen.deprecated;
}

-- a method, its signature, and what is left out in it (JVMS 4.6)
abbrev pub MethodRead : Type 0
MethodRead = Method × Signature × Option LeftKind

-- a method behind those of these signatures, in a class of this name (JVMS 4.6)
unfoldable pub read_method_info : List Entry → Bool → List ℕ → List Signature → FormatReader MethodRead
read_method_info pool in_interface class before = do
  at ← here
  flags ← read_flags are_method_flags
  name ← item u2 (good_text_at bad.BadName is_method_name pool)
  ty ← item u2 (method_type_at pool in_interface flags name)
  alone ← fresh at before (name, method_text ty)
  seen ← counted_attributes pool (known_of_method pool (has_body flags)
      (read_code pool (initial_locals class (is_static flags) name ty))) no_method_attribute
  whole ← settle at (test bad.BadAttribute (not (has_body flags) || is_there seen.body))
  give (method_of flags name ty seen, (name, method_text ty), (body_of flags seen.body).1)

-- methods, and what is left out in each (JVMS 4.1, 4.6)
unfoldable pub read_methods : ℕ → List Entry → Bool → List ℕ → List Signature
    → FormatReader (List Method × List (Option LeftKind))
read_methods zero pool in_interface class before = give ([], [])
read_methods (suc n) pool in_interface class before = do
  first ← read_method_info pool in_interface class before
  others ← read_methods n pool in_interface class (first.1 ∷ before)
  give (first.0 ∷ others.0, first.2 ∷ others.1)
