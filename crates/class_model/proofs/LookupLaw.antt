-- What an index of the pool leads to is found exactly where it is there: types, classes and references (JVMS 4.4.1,
-- 4.4.2).
use Rattle.std.proofs.Common.{◌≡◌, inl, inr, ℕ, ◌^◌, ◌<◌, Bool, true, false, cond, eqb, List}
use Rattle.std.proofs.Common.{Option, Some, None, Ok, refl, sym, ap, subst, ◌∙◌, arith}
use Rattle.std.specs.Prelude.{slice_get, option_and_then}
use Rattle.std.proofs.lemmas.Bool.{eqb-false}
use Rattle.jv_base.specs.Outcome.{◌>>=◌}
use Rattle.jv_base.specs.Mutf8.{IsUnits}
use Rattle.jv_base.specs.Names.{is_class_name}
use Rattle.jv_base.specs.Types.{field_text, IsFieldType, method_text, IsMethodType}
use Rattle.jv_base.specs.Descriptors.{read_field, read_method}
use Rattle.jv_base.specs.declared.types.FieldType.{FieldType}
use Rattle.jv_base.specs.declared.types.MethodType.{MethodType}
use Rattle.jv_base.proofs.FieldLaw.{read_field-found}
use Rattle.jv_base.proofs.MethodLaw.{read_method-found, read_method-only}
use Rattle.jv_base.proofs.Options.{both_there}
use Rattle.jv_base.proofs.Results.{then_ok}
use Rattle.format_reading.specs.declared.fault.FormatKind.TheVariants as bad
use Rattle.class_model.specs.declared.pool.Entry.{Entry}
use Rattle.class_model.specs.declared.op.MemberRef.{MemberRef}
use Rattle.class_model.specs.Pool.{units_at, class_units_at, name_index_in, IsText}
use Rattle.class_model.specs.ConstantPool.{name_and_type_at, class_type, IsNameOfType, IsTypeAt, IsReferenceAt}
use Rattle.class_model.specs.Lookups.{due, test, value_of, text_of, field_type_of, method_type_of, only_array}
use Rattle.class_model.specs.Lookups.{named_type, class_at, type_at, text_there, reference, reference_of, reference_at}
use Rattle.class_model.proofs.TextLaw.{text_found}
use Rattle.class_model.proofs.BackEntries.{text_back, array_back}
use Rattle.class_model.proofs.NameLaw.{HaveUnits, due_is, test_is, value_is}

-- ---- types

-- an array type that a text tells
array_is : (t ty : FieldType) (b : Bool) → eqb t.dims 0 ≡ b → cond b None (Some t) ≡ Some ty → (t ≡ ty) × (0 < ty.dims)
array_is t ty true e h = absurd cc
array_is t ty false e h =
    let same : t ≡ ty = cc in
    (same, let d : t.dims ≡ 0 → ⊥ = eqb-false t.dims 0 e in subst (λ (s : FieldType). 0 < s.dims) same (grind arith))

-- a type that a text names
named_found : (text : List ℕ) (ty : FieldType) → named_type text ≡ Some ty → IsFieldType ty × IsNameOfType text ty
named_found text ty h = by (is_class_name text) refl h
  where
    by : (b : Bool) → is_class_name text ≡ b
        → cond b (Some (class_type text)) (option_and_then only_array (field_type_of text)) ≡ Some ty
        → IsFieldType ty × IsNameOfType text ty
    by true e g =
        let same : class_type text ≡ ty = cc in
        (subst (λ (t : FieldType). IsFieldType t) same (record { dimensions = omega arith; named = e }), inl (sym same))
    by false e g =
        let a = both_there only_array (field_type_of text) ty g in
        let f = read_field-found text a.0 (value_is (read_field text) a.0 a.1) in
        let some = array_is a.0 ty (eqb a.0.dims 0) refl a.2 in
        (subst (λ (t : FieldType). IsFieldType t) some.0 f.0, inr (some.1, sym f.1 ∙ ap field_text some.0))

named_only : (text : List ℕ) (ty : FieldType) → IsFieldType ty → IsNameOfType text ty → named_type text ≡ Some ty
named_only text ty is (inl class) =
    let named : is_class_name text ≡ true = (subst (λ (t : FieldType). IsFieldType t) class is).named in
    rw named (ap (λ (t : FieldType). Some t) (sym class))
named_only text ty is (inr array) = ap named_type array.1 ∙ array_back ty is array.0

-- ---- at an index

-- units of a class are units of the pool
class_fits : (pool : List Entry) (index : ℕ) (units : List ℕ) → HaveUnits pool → class_units_at pool index ≡ Some units
    → IsUnits units
class_fits pool index units fit h = let a = both_there (units_at pool)
    (option_and_then name_index_in (slice_get pool index)) units h in fit a.0 units a.2

-- a text of a class
class_text_found : (pool : List Entry) (index : ℕ) (text : List ℕ) → HaveUnits pool
    → option_and_then text_of (class_units_at pool index) ≡ Some text → IsText (class_units_at pool index) text
class_text_found pool index text fit h =
    let a = both_there text_of (class_units_at pool index) text h in
    let f = text_found a.0 text (class_fits pool index a.0 fit a.1) a.2 in
    (f.0, a.1 ∙ ap (λ (u : List ℕ). Some u) f.1)

there_found : (pool : List Entry) (index : ℕ) (text : List ℕ) → HaveUnits pool → text_there pool index ≡ Some text
    → IsText (units_at pool index) text
there_found pool index text fit h =
    let a = both_there text_of (units_at pool index) text h in
    let f = text_found a.0 text (fit index a.0 a.1) a.2 in
    (f.0, a.1 ∙ ap (λ (u : List ℕ). Some u) f.1)

text_only : (units : Option (List ℕ)) (text : List ℕ) → IsText units text → option_and_then text_of units ≡ Some text
text_only units text h = ap (option_and_then text_of) h.1 ∙ text_back text h.0

-- a class or an array type
pub type_found : (pool : List Entry) (index : ℕ) (ty : FieldType) → HaveUnits pool → type_at pool index ≡ Some ty
    → IsTypeAt pool index ty
unfolding type_at
type_found pool index ty fit h =
    let a = both_there named_type (option_and_then text_of (class_units_at pool index)) ty h in
    let n = named_found a.0 ty a.2 in
    (a.0, class_text_found pool index a.0 fit a.1, n.0, n.1)

pub type_only : (pool : List Entry) (index : ℕ) (ty : FieldType) → IsTypeAt pool index ty → type_at pool index ≡ Some ty
unfolding type_at
type_only pool index ty h = ap (option_and_then named_type) (text_only (class_units_at pool index) h.0 h.1)
    ∙ named_only h.0 ty h.2 h.3

-- a class
pub class_found : (pool : List Entry) (index : ℕ) (name : List ℕ) → HaveUnits pool → class_at pool index ≡ Ok name
    → IsText (class_units_at pool index) name × (is_class_name name ≡ true)
unfolding class_at
class_found pool index name fit h =
    let a = then_ok (due bad.BadIndex (class_units_at pool index))
    (λ units. due bad.BadName (text_of units) >>=
    (λ text. test bad.BadName (is_class_name text) >>= (λ named. Ok text))) name h in
    let b = then_ok (due bad.BadName (text_of a.0))
    (λ text. test bad.BadName (is_class_name text) >>= (λ named. Ok text)) name a.2 in
    let c = then_ok (test bad.BadName (is_class_name b.0)) (λ named. Ok b.0) name b.2 in
    let is : b.0 ≡ name = (let e : Ok b.0 ≡ Ok name = c.2 in cc) in
    let units : class_units_at pool index ≡ Some a.0 = due_is bad.BadIndex (class_units_at pool index) a.0 a.1 in
    let f = text_found a.0 b.0 (class_fits pool index a.0 fit units) (due_is bad.BadName (text_of a.0) b.0 b.1) in
    subst (λ (t : List ℕ). IsText (class_units_at pool index) t × (is_class_name t ≡ true)) is
    ((f.0, units ∙ ap (λ (u : List ℕ). Some u) f.1), test_is bad.BadName (is_class_name b.0) c.0 c.1)

pub class_only : (pool : List Entry) (index : ℕ) (name : List ℕ) → IsText (class_units_at pool index) name
    → is_class_name name ≡ true → class_at pool index ≡ Ok name
unfolding class_at
class_only pool index name h named = rw (h.1, text_back name h.0, named) refl

-- ---- references

reference_is : (of_interface : Bool) (class : Option FieldType) (name ty : Option (List ℕ)) (r : MemberRef)
    → reference of_interface class name ty ≡ Some r
    → (class ≡ Some r.class) × (name ≡ Some r.name) × (ty ≡ Some r.ty) × (r.of_interface ≡ of_interface)
reference_is of_interface (Some c) (Some n) (Some t) r h =
    let is : (let m : MemberRef = record { class = c; name = n; ty = t; of_interface = of_interface } in m) ≡ r =
    cc in (
      ap (λ (m : MemberRef). Some m.class) is,
      ap (λ (m : MemberRef). Some m.name) is,
      ap
          (λ (m : MemberRef). Some m.ty) is,
      sym (ap (λ (m : MemberRef). m.of_interface) is),
    )
reference_is of_interface (Some c) (Some n) None r h = absurd cc
reference_is of_interface (Some c) None t r h = absurd cc
reference_is of_interface None n t r h = absurd cc

pub reference_found : (refers_in : Entry → Option (ℕ × ℕ)) (of_interface : Bool) (pool : List Entry) (index : ℕ)
    (r : MemberRef) → HaveUnits pool → index < 2 ^ 16 → reference_at refers_in of_interface pool index ≡ Some r
    → IsReferenceAt refers_in pool index r × (r.of_interface ≡ of_interface)
reference_found refers_in of_interface pool index r fit small h =
    let a = both_there (λ (two : ℕ × ℕ). option_and_then (reference_of of_interface pool two.0)
    (name_and_type_at pool two.1)) (option_and_then refers_in (slice_get pool index)) r h in
    let b = both_there (reference_of of_interface pool a.0.0) (name_and_type_at pool a.0.1) r a.2 in
    let c = reference_is of_interface (type_at pool a.0.0) (text_there pool b.0.0) (text_there pool b.0.1) r b.2 in (
      record {
        index_fits = small;
        indices = a.0;
        entry = a.1;
        class = type_found pool a.0.0 r.class fit c.0;
        name_and_type =
            record {
              indices = b.0;
              entry = b.1;
              name_text = there_found pool b.0.0 r.name fit c.1;
              descriptor_text = there_found pool b.0.1 r.ty fit c.2;
            };
      },
      c.3,
    )

pub reference_only : (refers_in : Entry → Option (ℕ × ℕ)) (of_interface : Bool) (pool : List Entry) (index : ℕ)
    (r : MemberRef) → IsReferenceAt refers_in pool index r → r.of_interface ≡ of_interface
    → reference_at refers_in of_interface pool index ≡ Some r
reference_only refers_in of_interface pool index r h is =
    let n = h.name_and_type in
    rw (
      h.entry,
      n.entry,
      type_only pool h.indices.0 r.class h.class,
      text_only
          (units_at pool n.indices.0) r.name n.name_text,
      text_only (units_at pool n.indices.1) r.ty n.descriptor_text,
    )
    (ap (λ (b : Bool). Some
    (let m : MemberRef = record { class = r.class; name = r.name; ty = r.ty; of_interface = b } in m)) (sym is))

-- ---- the type of a method

pub method_found : (text : List ℕ) (ty : MethodType) → method_type_of text ≡ Some ty
    → IsMethodType ty × (text ≡ method_text ty)
method_found text ty h = let f = read_method-found text ty (value_is (read_method text) ty h) in (f.0, sym f.1)

pub method_only : (text : List ℕ) (ty : MethodType) → IsMethodType ty → text ≡ method_text ty
    → method_type_of text ≡ Some ty
method_only text ty is e = ap value_of (read_method-only text ty (is, sym e))
