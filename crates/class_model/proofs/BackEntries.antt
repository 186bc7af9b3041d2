-- What is found at an index whose entry says a constant.
use Rattle.std.proofs.Common.{◌≡◌, inl, inr, ℕ, zero, suc, ◌-◌, ◌<◌, Bool, true, false, cond, eqb, not, ◌&&◌, List, []}
use Rattle.std.proofs.Common.{◌∷◌, ◌++◌, Option, Some, Ok, refl, sym, ap, subst, ◌∙◌, arith, IsUtf8, ne_eqb}
use Rattle.std.specs.Prelude.{option_and_then, replicate, codes}
use Rattle.std.proofs.lemmas.Bool.{eqb-true, eqb-false}
use Rattle.std.proofs.lemmas.Str.{IsUtf8-nil, IsUtf8-append}
use Rattle.jv_base.specs.declared.types.FieldType.{FieldType}
use Rattle.jv_base.specs.declared.types.Base.{Base}
use Rattle.jv_base.specs.declared.types.Base.TheVariants as base
use Rattle.jv_base.specs.Names.{is_class_name, is_name_byte, parts_whole, is_primitive_or_void}
use Rattle.jv_base.specs.Types.{field_text, base_text, IsBase, IsFieldType}
use Rattle.jv_base.specs.Utf16.{units_of}
use Rattle.jv_base.proofs.FieldLaw.{read_field-only}
use Rattle.jv_base.proofs.Naming.{class_name_is}
use Rattle.jv_base.proofs.Utf16Text.{IsTextOf-paired, IsTextOf-read}
use Rattle.class_model.specs.declared.pool.Entry.{Entry}
use Rattle.class_model.specs.Pool.{units_in, units_at, name_index_in, class_units_at}
use Rattle.class_model.specs.CanonicalPool.{type_name, type_name_of_base}
use Rattle.class_model.specs.ConstantPool.{name_and_type_in, name_and_type_at}
use Rattle.class_model.specs.declared.op.MemberRef.{MemberRef}
use Rattle.class_model.specs.Lookups.{reference_at, text_there, text_of, value_of, named_type, field_type_of, class_at}
use Rattle.class_model.specs.Lookups.{type_at}
use Rattle.class_model.specs.WellFormed.{IsClassName, IsClassOrArray}
use Rattle.class_model.specs.Says.{SaysUnits, SaysClass, SaysReference}
use Rattle.class_model.specs.OpValues.{IsBaseValue, IsReferenceValue}
use Rattle.class_model.proofs.Units.{text_is}

-- ---- texts

-- the units of a text are read as it
pub text_back : (text : List ℕ) → IsUtf8 text → text_of (units_of text) ≡ Some text
text_back text utf8 =
    text_is (units_of text) (IsTextOf-paired text (units_of text) (utf8, refl))
    ∙ ap (λ (t : List ℕ). Some t) (IsTextOf-read text (units_of text) (utf8, refl))

pub units_back : (entries : List Entry) (index : ℕ) (units : List ℕ) → SaysUnits entries index units
    → units_at entries index ≡ Some units
units_back entries index units h = ap (option_and_then units_in) h

class_units_back : (entries : List Entry) (index : ℕ) (units : List ℕ) → SaysClass entries index units
    → class_units_at entries index ≡ Some units
class_units_back entries index units h = ap
    (λ e. option_and_then (units_at entries) (option_and_then name_index_in e)) h.1 ∙ units_back entries h.0 units h.2

-- ---- classes and array types

-- an array type's descriptor is no class name
pub not_class : (ty : FieldType) (n : ℕ) → ty.dims ≡ suc n → is_class_name (field_text ty) ≡ false
unfolding field_text is_name_byte
not_class ty n e = class_name_is (field_text ty)
    ∙ ap (λ (k : ℕ). parts_whole false (replicate k 91 ++ base_text ty.base)
    && not (is_primitive_or_void (replicate k 91 ++ base_text ty.base))) e

-- so it is read as the descriptor
pub array_back : (ty : FieldType) → IsFieldType ty → 0 < ty.dims → named_type (field_text ty) ≡ Some ty
array_back ty is some =
    let n : suc (ty.dims - 1) ≡ ty.dims = omega arith in
    let other : is_class_name (field_text ty) ≡ false = not_class ty (ty.dims - 1) (sym n) in
    let dims : eqb ty.dims 0 ≡ false = ne_eqb ty.dims 0 (λ e. omega arith) in
    let read : field_type_of (field_text ty) ≡ Some ty = ap value_of (read_field-only (field_text ty) ty (is, refl)) in
    rw (other, read, dims) refl

-- the name in the constant of an array type
array_name : (ty : FieldType) (b : Base) → eqb ty.dims 0 ≡ false → type_name_of_base ty b ≡ field_text ty
array_name ty (base.Class name) h = rw h refl
array_name ty base.Boolean h = refl
array_name ty base.Byte h = refl
array_name ty base.Char h = refl
array_name ty base.Short h = refl
array_name ty base.Int h = refl
array_name ty base.Long h = refl
array_name ty base.Float h = refl
array_name ty base.Double h = refl

-- a class is named by its name
class_back_at : (name : List ℕ) → is_class_name name ≡ true
    → named_type name ≡ Some (record { dims = 0; base = base.Class name })
class_back_at name h = rw h refl

-- the name in a constant tells the type again
name_back : (ty : FieldType) → IsClassOrArray ty → named_type (type_name ty) ≡ Some ty
name_back ty (is, inl array) = ap named_type (array_name ty ty.base (ne_eqb ty.dims 0 (λ e. omega arith)))
    ∙ array_back ty is array
name_back ty (is, inr class) = by (eqb ty.dims 0) refl
  where
    by : (b : Bool) → eqb ty.dims 0 ≡ b → named_type (type_name ty) ≡ Some ty
    by true h =
        let one : ty
        ≡ record { dims = 0; base = base.Class class.0 } =
        λ i. record { dims = eqb-true ty.dims 0 h i; base = class.1 i } in
        let named : is_class_name class.0 ≡ true = subst (λ (b : Base). IsBase b) class.1 is.named in
        subst (λ (t : FieldType). named_type (type_name t) ≡ Some t) (sym one) (class_back_at class.0 named)
    by false h = ap named_type (array_name ty ty.base h)
        ∙ array_back ty is (let d : ty.dims ≡ 0 → ⊥ = eqb-false _ _ h in grind arith)

-- ---- texts of types

-- one byte below 128
bracket_utf8 : IsUtf8 (91 ∷ [])
unfolding lib.Utf8.encode
bracket_utf8 = (91 ∷ [], (refl, refl))

pub class_utf8 : IsUtf8 (codes "L")
unfolding lib.Utf8.encode
class_utf8 = (codes "L", (refl, refl))

pub end_utf8 : IsUtf8 (codes ";")
unfolding lib.Utf8.encode
end_utf8 = (codes ";", (refl, refl))

-- the brackets are a text
pub brackets_utf8 : (n : ℕ) → IsUtf8 (replicate n 91)
brackets_utf8 zero = IsUtf8-nil
brackets_utf8 (suc n) = IsUtf8-append (91 ∷ []) (replicate n 91) bracket_utf8 (brackets_utf8 n)

-- a base type's text
base_utf8 : (b : Base) → IsBaseValue b → IsUtf8 (base_text b)
unfolding base_text lib.Utf8.encode
base_utf8 (base.Class name) h = IsUtf8-append (codes "L") (name ++ codes ";") class_utf8
    (IsUtf8-append name (codes ";") h end_utf8)
base_utf8 base.Boolean h = (codes "Z", (refl, refl))
base_utf8 base.Byte h = (codes "B", (refl, refl))
base_utf8 base.Char h = (codes "C", (refl, refl))
base_utf8 base.Short h = (codes "S", (refl, refl))
base_utf8 base.Int h = (codes "I", (refl, refl))
base_utf8 base.Long h = (codes "J", (refl, refl))
base_utf8 base.Float h = (codes "F", (refl, refl))
base_utf8 base.Double h = (codes "D", (refl, refl))

-- a descriptor's
pub field_utf8 : (ty : FieldType) → IsBaseValue ty.base → IsUtf8 (field_text ty)
unfolding field_text
field_utf8 ty h = IsUtf8-append (replicate ty.dims 91) (base_text ty.base) (brackets_utf8 ty.dims) (base_utf8 ty.base h)

either_utf8 : (b : Bool) (one other : List ℕ) → IsUtf8 one → IsUtf8 other → IsUtf8 (cond b one other)
either_utf8 true one other h k = h
either_utf8 false one other h k = k

-- the name in a constant's
pub name_utf8 : (ty : FieldType) (b : Base) → IsBaseValue b → IsUtf8 (field_text ty) → IsUtf8 (type_name_of_base ty b)
name_utf8 ty (base.Class name) h k = either_utf8 (eqb ty.dims 0) name (field_text ty) h k
name_utf8 ty base.Boolean h k = k
name_utf8 ty base.Byte h k = k
name_utf8 ty base.Char h k = k
name_utf8 ty base.Short h k = k
name_utf8 ty base.Int h k = k
name_utf8 ty base.Long h k = k
name_utf8 ty base.Float h k = k
name_utf8 ty base.Double h k = k

-- ---- at an index

-- a class
pub class_back : (entries : List Entry) (index : ℕ) (name : List ℕ) → SaysClass entries index (units_of name)
    → IsClassName name → class_at entries index ≡ Ok name
unfolding class_at
class_back entries index name says is = rw
    (class_units_back entries index (units_of name) says, text_back name is.0, is.1) refl

-- a class or an array type
pub type_back : (entries : List Entry) (index : ℕ) (ty : FieldType) → SaysClass entries index (units_of (type_name ty))
    → IsClassOrArray ty → IsBaseValue ty.base → type_at entries index ≡ Some ty
unfolding type_at
type_back entries index ty says is value =
    let utf8 : IsUtf8 (type_name ty) = name_utf8 ty ty.base value (field_utf8 ty value) in
    rw (class_units_back entries index (units_of (type_name ty)) says, text_back (type_name ty) utf8) (name_back ty is)

-- the text of a name or a descriptor
there_back : (entries : List Entry) (index : ℕ) (text : List ℕ) → SaysUnits entries index (units_of text) → IsUtf8 text
    → text_there entries index ≡ Some text
there_back entries index text says utf8 = rw (units_back entries index (units_of text) says) (text_back text utf8)

-- a reference
pub reference_back : (entries : List Entry) (refers_in : Entry → Option (ℕ × ℕ)) (made : ℕ → ℕ → Entry)
    (of_interface : Bool) → ((a b : ℕ) → refers_in (made a b) ≡ Some (a, b)) → (index : ℕ) (r : MemberRef)
    → SaysReference entries index made (units_of (type_name r.class)) (units_of r.name) (units_of r.ty)
    → IsClassOrArray r.class → IsReferenceValue r → r.of_interface ≡ of_interface
    → reference_at refers_in of_interface entries index ≡ Some r
reference_back entries refers_in made of_interface kind index r says class value is =
    let names = says.4 in
    let two : name_and_type_at entries says.1
    ≡ Some (names.0, names.1) = ap (option_and_then name_and_type_in) names.2 in
    let ty : type_at entries says.0 ≡ Some r.class = type_back entries says.0 r.class says.3 class value.class in
    let name : text_there entries names.0 ≡ Some r.name = there_back entries names.0 r.name names.3 value.name in
    let descriptor : text_there entries names.1
    ≡ Some r.ty = there_back entries names.1 r.ty names.4 value.descriptor in
    rw (says.2, kind says.0 says.1, two, ty, name, descriptor)
    (ap (λ (b : Bool). Some
    (let m : MemberRef = record { class = r.class; name = r.name; ty = r.ty; of_interface = b } in m)) (sym is))
