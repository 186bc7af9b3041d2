-- The constants that a well-formed class wants stand with their parts in a pool that has them (JVMS 4.4).
use Rattle.std.proofs.Common.{◌≡◌, inl, inr, ℕ, zero, suc, ◌<◌, Bool, true, false}
use Rattle.std.proofs.Common.{List, [], ◌∷◌, ◌++◌, Option, Some, None, refl, arith}
use Rattle.std.specs.Prelude.{IsUtf8, IfSome, codes}
use Rattle.std.specs.Char.Escape.{encode_utf16}
use Rattle.std.specs.Str.{chars, all_scalars}
use Rattle.std.specs.List.{AllByRecursion, flat_map}
use Rattle.std.proofs.Math.Utf8.{scalar, scalar_cases}
use Rattle.std.proofs.lemmas.Bool.{cases_lt, or_left, and_parts}
use Rattle.std.proofs.lemmas.Str.{IsUtf8-append, IsUtf8-nil, scalars-chars}
use Rattle.jv_base.specs.Mutf8.{IsUnits}
use Rattle.jv_base.specs.Utf16.{units_of}
use Rattle.jv_base.specs.Names.{is_member_name, is_method_name}
use Rattle.jv_base.specs.Types.{field_text, result_text, method_text}
use Rattle.jv_base.specs.declared.types.FieldType.{FieldType}
use Rattle.jv_base.specs.declared.types.MethodType.{MethodType}
use Rattle.jv_base.specs.declared.types.Base.TheVariants as base
use Rattle.class_model.specs.declared.constant.PoolConstant.{PoolConstant}
use Rattle.class_model.specs.declared.constant.PoolConstant.TheVariants.{Integer}
use Rattle.class_model.specs.declared.op.MemberRef.{MemberRef}
use Rattle.class_model.specs.declared.op.Op.{Op}
use Rattle.class_model.specs.declared.op.Op.TheVariants as op
use Rattle.class_model.specs.ConstantPool.{IsFieldText, IsMethodText, class_type}
use Rattle.class_model.specs.CanonicalPool.{type_name, text_constants, class_constants}
use Rattle.class_model.specs.CanonicalPool.{string_constants, long_constants, with_parts, fieldref, methodref}
use Rattle.class_model.specs.CanonicalCode.{is_short, is_lconst, pushed_constants, op_constants}
use Rattle.class_model.specs.bodies.PoolEntries.{Has}
use Rattle.class_model.specs.WellFormed.{IsClassName, IsClassOrArray, IsReference, IsGoodOp}
use Rattle.class_model.specs.OpValues.{IsBaseValue, IsReferenceValue, IsOpValue}
use Rattle.class_model.proofs.BackEntries.{field_utf8, name_utf8}
use Rattle.class_model.proofs.BackMembers.{constant_by}
use Rattle.class_laws.specs.ClassValues.{IsPushValue, IsFieldTypeValue, IsMethodTypeValue}
use Rattle.class_laws.proofs.SpelledLists.{all_both, all_if}
use Rattle.class_laws.proofs.SpelledPool.{IsTypeNamed, AreNamed, IsDescriptor, HasParts, IsRight}
use Rattle.jv_base.proofs.Utf16Text.{one_unit, two_units}

-- ---- texts

abbrev IsUnit : ℕ → Type 0
IsUnit u = u < 65536

char_units : (c : ℕ) → scalar c ≡ true → AllByRecursion IsUnit (encode_utf16 c)
char_units c h = elim (cases_lt c 65536) [
  | inl one ↦ rw (one_unit c one) (one, tt)
  | inr two ↦
      let below : c < 1114112 = elim (scalar_cases c h) [ inl low ↦ omega arith | inr high ↦ high.1 ] in
      rw (two_units c two) (omega arith, (omega arith, tt))
]

chars_units : (cs : List ℕ) → all_scalars cs ≡ true → AllByRecursion IsUnit (flat_map encode_utf16 cs)
chars_units [] h = tt
chars_units (c ∷ cs) h = let p = and_parts (scalar c) (all_scalars cs) h in all_both IsUnit (encode_utf16 c)
    (flat_map encode_utf16 cs) (char_units c p.0) (chars_units cs p.1)

each_unit : (us : List ℕ) → AllByRecursion IsUnit us → IsUnits us
each_unit [] h i = omega arith
each_unit (u ∷ us) h zero = h.0
each_unit (u ∷ us) h (suc i) = each_unit us h.1 i

-- the units of a text are units
pub units_are : (text : List ℕ) → IsUtf8 text → IsUnits (units_of text)
unfolding units_of
units_are text utf8 = each_unit (flat_map encode_utf16 (chars text))
    (chars_units (chars text) (scalars-chars text utf8))

-- ---- texts of types

pub type_utf8 : (ty : FieldType) → IsBaseValue ty.base → IsUtf8 (type_name ty)
type_utf8 ty h = name_utf8 ty ty.base h (field_utf8 ty h)

pub open_utf8 : IsUtf8 (codes "(")
unfolding lib.Utf8.encode
open_utf8 = (codes "(", (refl, refl))

pub close_utf8 : IsUtf8 (codes ")")
unfolding lib.Utf8.encode
close_utf8 = (codes ")", (refl, refl))

void_utf8 : IsUtf8 (codes "V")
unfolding lib.Utf8.encode
void_utf8 = (codes "V", (refl, refl))

all_utf8 : (tys : List FieldType) → AllByRecursion IsFieldTypeValue tys → IsUtf8 (flat_map field_text tys)
all_utf8 [] h = IsUtf8-nil
all_utf8 (ty ∷ tys) h = IsUtf8-append (field_text ty) (flat_map field_text tys) (field_utf8 ty h.0) (all_utf8 tys h.1)

result_utf8 : (ty : Option FieldType) → IfSome ty IsFieldTypeValue → IsUtf8 (result_text ty)
unfolding result_text
result_utf8 None h = void_utf8
result_utf8 (Some ty) h = field_utf8 ty h

pub method_utf8 : (ty : MethodType) → IsMethodTypeValue ty → IsUtf8 (method_text ty)
unfolding method_text
method_utf8 ty h =
    IsUtf8-append (codes "(") (flat_map field_text ty.args ++ (codes ")" ++ result_text ty.ret)) open_utf8
    (IsUtf8-append (flat_map field_text ty.args) (codes ")" ++ result_text ty.ret) (all_utf8 ty.args h.arguments)
    (IsUtf8-append (codes ")") (result_text ty.ret) close_utf8 (result_utf8 ty.ret h.returned)))

-- ---- constants with their parts

-- a class of a plain name
pub class_named : (name : List ℕ) → IsClassName name → IsTypeNamed (units_of name)
class_named name is = record {
  ty = class_type name;
  is = refl;
  good =
      (record { dimensions = omega arith; named = is.1 }, inr (name, refl));
  value = is.0;
}

pub type_named : (ty : FieldType) → IsClassOrArray ty → IsBaseValue ty.base → IsTypeNamed (units_of (type_name ty))
type_named ty good value = record { ty = ty; is = refl; good = good; value = value }

-- a member's name is a name of a method
as_method_name : (name : List ℕ) → is_member_name name ≡ true → is_method_name name ≡ true
unfolding is_method_name
as_method_name name h = or_left _ _ (or_left (is_member_name name) _ h)

module _ (pool : List PoolConstant) where
  abbrev pub HasAll : List PoolConstant → Type 0
  HasAll ks = AllByRecursion (Has pool) ks

  abbrev pub AllRight : List PoolConstant → Type 0
  AllRight ks = AllByRecursion (IsRight pool) ks

  pub text_right : (text : List ℕ) → IsUtf8 text → AllRight (text_constants text)
  text_right text utf8 = (units_are text utf8, tt)

  pub class_right : (name : List ℕ) → IsClassName name → HasAll (class_constants name) → AllRight (class_constants name)
  class_right name is h = (units_are name is.0, ((h.0, class_named name is), tt))

  pub type_right : (ty : FieldType) → IsClassOrArray ty → IsBaseValue ty.base → HasAll (class_constants (type_name ty))
      → AllRight (class_constants (type_name ty))
  type_right ty good value h = (units_are (type_name ty) (type_utf8 ty value), ((h.0, type_named ty good value), tt))

  pub string_right : (units : List ℕ) → IsUnits units → HasAll (string_constants units)
      → AllRight (string_constants units)
  string_right units is h = (is, (h.0, tt))

  -- ---- references

  names_are : (is_name : List ℕ → Bool) (Describes : List ℕ → Type 0) (r : MemberRef) → IsReference is_name Describes r
      → IsReferenceValue r → AreNamed is_name Describes (units_of r.name) (units_of r.ty)
  names_are is_name Describes r good value = record {
    name = r.name;
    descriptor = r.ty;
    name_is = refl;
    descriptor_is = refl;
    name_utf8 = value.name;
    descriptor_utf8 = value.descriptor;
    named = good.name.1;
    described = good.descriptor;
  }

  parts_are : (is_name : List ℕ → Bool) (Describes : List ℕ → Type 0) (r : MemberRef) (k : PoolConstant)
      → IsReference is_name Describes r → IsReferenceValue r → HasAll (with_parts r k)
      → HasParts pool is_name Describes (units_of (type_name r.class)) (units_of r.name) (units_of r.ty)
  parts_are is_name Describes r k good value h = record {
    class_text = h.0;
    class_there = h.1.0;
    class_named = type_named r.class good.class value.class;
    name_text = h.1.1.0;
    descriptor_text = h.1.1.1.0;
    name_and_type = h.1.1.1.1.0;
    names = names_are is_name Describes r good value;
  }

  -- a reference behind its parts, whose name is one of a method and whose descriptor is of either kind
  with_parts_right : (is_name : List ℕ → Bool) (Describes : List ℕ → Type 0) (r : MemberRef) (k : PoolConstant)
      → ((t : List ℕ) → is_name t ≡ true → is_method_name t ≡ true) → ((t : List ℕ) → Describes t → IsDescriptor t)
      → IsReference is_name Describes r → IsReferenceValue r → HasAll (with_parts r k) → IsRight pool k
      → AllRight (with_parts r k)
  with_parts_right is_name Describes r k name_is descriptor_is good value h right =
      let names : AreNamed is_method_name IsDescriptor (units_of r.name) (units_of r.ty) = record {
        name = r.name;
        descriptor = r.ty;
        name_is = refl;
        descriptor_is = refl;
        name_utf8 = value.name;
        descriptor_utf8 = value.descriptor;
        named = name_is r.name good.name.1;
        described = descriptor_is r.ty good.descriptor;
      } in (
        units_are (type_name r.class) (type_utf8 r.class value.class),
        (
          (h.0, type_named r.class good.class value.class),
          (units_are r.name value.name, (units_are r.ty value.descriptor, ((h.1.1.0, h.1.1.1.0, names), (right, tt)))),
        ),
      )

  field_right : (r : MemberRef) → IsReference is_member_name IsFieldText r → IsReferenceValue r
      → HasAll (with_parts r (fieldref r)) → AllRight (with_parts r (fieldref r))
  field_right r good value h = with_parts_right is_member_name IsFieldText r (fieldref r) as_method_name
      (λ t d. inl d) good value h (parts_are is_member_name IsFieldText r (fieldref r) good value h)

  method_by : (b : Bool) (r : MemberRef) → IsReference is_method_name IsMethodText r → IsReferenceValue r
      → HasAll (with_parts r (constant_by b r)) → AllRight (with_parts r (constant_by b r))
  method_by true r good value h = with_parts_right is_method_name IsMethodText r (constant_by true r) (λ t n. n)
      (λ t d. inr d) good value h (parts_are is_method_name IsMethodText r (constant_by true r) good value h)
  method_by false r good value h = with_parts_right is_method_name IsMethodText r (constant_by false r) (λ t n. n)
      (λ t d. inr d) good value h (parts_are is_method_name IsMethodText r (constant_by false r) good value h)

  method_right : (r : MemberRef) → IsReference is_method_name IsMethodText r → IsReferenceValue r
      → HasAll (with_parts r (methodref r)) → AllRight (with_parts r (methodref r))
  method_right r good value h = method_by r.of_interface r good value h

  -- ---- instructions

  -- a constant that is pushed
  pub pushed_right : (n : ℕ) (o : Op) → IsGoodOp n o → IsPushValue o → HasAll (pushed_constants o)
      → AllRight (pushed_constants o)
  pushed_right n (op.PushInt z) good value h = all_if (IsRight pool) (is_short z) [] (Integer z ∷ []) tt (value, tt)
  pushed_right n (op.PushText units) good value h = string_right units good h
  pushed_right n _ good value h = tt

  pub op_right : (n : ℕ) (o : Op) → IsGoodOp n o → IsOpValue o → IsPushValue o → HasAll (op_constants o)
      → AllRight (op_constants o)
  op_right n (op.PushInt z) good value push h = all_if (IsRight pool) (is_short z) [] (Integer z ∷ []) tt (push, tt)
  op_right n (op.PushText units) good value push h = string_right units good h
  op_right n (op.PushLong z) good value push h = all_if (IsRight pool) (is_lconst z) [] (long_constants z) tt
      (push, (tt, tt))
  op_right n (op.GetStatic r) good value push h = field_right r good.0 value h
  op_right n (op.PutStatic r) good value push h = field_right r good.0 value h
  op_right n (op.GetField r) good value push h = field_right r good.0 value h
  op_right n (op.PutField r) good value push h = field_right r good.0 value h
  op_right n (op.InvokeVirtual r) good value push h = method_right r good.0 value h
  op_right n (op.InvokeSpecial r) good value push h = method_right r good value h
  op_right n (op.InvokeStatic r) good value push h = method_right r good value h
  op_right n (op.InvokeInterface r) good value push h = method_right r good.0 value h
  op_right n (op.New name) good value push h = class_right name good h
  op_right n (op.ANewArray ty) good value push h = type_right ty good.0 value h
  op_right n (op.CheckCast ty) good value push h = type_right ty good value h
  op_right n (op.InstanceOf ty) good value push h = type_right ty good value h
  op_right n (op.MultiNewArray ty dimensions) good value push h = type_right ty
      (good.0, inl (omega (arith, good.1, good.2))) value h
  op_right n _ good value push h = tt
