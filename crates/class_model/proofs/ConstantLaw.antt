-- The constant of a field is read exactly where it is told (JVMS 4.7.2).
use Rattle.std.proofs.Common.{◌≡◌, inl, inr, ℕ, Bool, true, false, cond, eqb, List, Option, Some, None, Ok, Err}
use Rattle.std.proofs.Common.{codes, refl, sym, ap, subst, ◌∙◌}
use Rattle.std.specs.Prelude.{slice_get, option_map, option_and_then}
use Rattle.std.proofs.lemmas.Bool.{eqb-true, eq-eqb, and_parts}
use Rattle.jv_base.specs.declared.types.FieldType.{FieldType}
use Rattle.jv_base.specs.declared.types.Base.{Base}
use Rattle.jv_base.specs.declared.types.Base.TheVariants as base
use Rattle.jv_base.proofs.Equality.{text_Decides}
use Rattle.format_reading.specs.declared.fault.FormatKind.TheVariants as bad
use Rattle.format_reading.specs.Spelling.{Spells}
use Rattle.format_reading.proofs.Exact.{Exact, item_exact, u2_exact}
use Rattle.class_model.specs.declared.pool.Entry.{Entry}
use Rattle.class_model.specs.declared.pool.Entry.TheVariants as entry
use Rattle.class_model.specs.declared.class.Constant.{Constant}
use Rattle.class_model.specs.declared.class.Constant.TheVariants as constant
use Rattle.class_model.specs.Pool.{units_at}
use Rattle.class_model.specs.ConstantPool.{NamesRight, string_index_in, string_units_at}
use Rattle.class_model.specs.Attributes.{IsPlain, IsIntLike, IsConstantOf, IsConstantValue}
use Rattle.class_model.specs.ReadingAttributes.{is_int_base, is_long_base, is_string_base, is_float_base}
use Rattle.class_model.specs.ReadingAttributes.{is_double_base, fitting, plain, constant_in, constant_value}
use Rattle.class_model.proofs.AttributeLaw.{text, as_text, as_told}

-- each entry of the pool names right
abbrev pub AllNameRight : List Entry → Type 0
AllNameRight pool = (index : ℕ) (e : Entry) → slice_get pool index ≡ Some e → NamesRight pool e

-- ---- types

-- no array, and of a base that passes a test
plain_found : (is_base : Base → Bool) (ty : FieldType) → plain is_base ty ≡ true
    → (ty.dims ≡ 0) × (is_base ty.base ≡ true)
plain_found is_base ty h = let b = and_parts _ _ h in (eqb-true ty.dims 0 b.0, b.1)

plain_only : (is_base : Base → Bool) (ty : FieldType) (b : Base) → IsPlain b ty → is_base b ≡ true
    → plain is_base ty ≡ true
plain_only is_base ty b h passes = rw (eq-eqb ty.dims 0 h.0, h.1, passes) refl

-- the types of ints
int_found : (ty : FieldType) → plain is_int_base ty ≡ true → IsIntLike ty
int_found ty h = let p = plain_found is_int_base ty h in by ty.base refl p.0 p.1
  where
    by : (b : Base) → ty.base ≡ b → ty.dims ≡ 0 → is_int_base ty.base ≡ true → IsIntLike ty
    by base.Int e d g = inl (d, e)
    by base.Short e d g = inr (inl (d, e))
    by base.Char e d g = inr (inr (inl (d, e)))
    by base.Byte e d g = inr (inr (inr (inl (d, e))))
    by base.Boolean e d g = inr (inr (inr (inr (d, e))))
    by base.Long e d g = let f : false ≡ true = sym (ap is_int_base e) ∙ g in absurd cc
    by base.Float e d g = let f : false ≡ true = sym (ap is_int_base e) ∙ g in absurd cc
    by base.Double e d g = let f : false ≡ true = sym (ap is_int_base e) ∙ g in absurd cc
    by (base.Class name) e d g = let f : false ≡ true = sym (ap is_int_base e) ∙ g in absurd cc

int_only : (ty : FieldType) → IsIntLike ty → plain is_int_base ty ≡ true
int_only ty (inl h) = plain_only is_int_base ty base.Int h refl
int_only ty (inr (inl h)) = plain_only is_int_base ty base.Short h refl
int_only ty (inr (inr (inl h))) = plain_only is_int_base ty base.Char h refl
int_only ty (inr (inr (inr (inl h)))) = plain_only is_int_base ty base.Byte h refl
int_only ty (inr (inr (inr (inr h)))) = plain_only is_int_base ty base.Boolean h refl

-- a base of which a test tells that it is one
abbrev Tells : (Base → Bool) → Base → Type 0
Tells is_base one = (b : Base) → is_base b ≡ true → b ≡ one

one_found : (is_base : Base → Bool) (one : Base) (ty : FieldType) → Tells is_base one → plain is_base ty ≡ true
    → IsPlain one ty
one_found is_base one ty tells h = let p = plain_found is_base ty h in (p.0, tells ty.base p.1)

long_told : Tells is_long_base base.Long
long_told base.Long h = refl
long_told base.Int h = absurd cc
long_told base.Short h = absurd cc
long_told base.Char h = absurd cc
long_told base.Byte h = absurd cc
long_told base.Boolean h = absurd cc
long_told base.Float h = absurd cc
long_told base.Double h = absurd cc
long_told (base.Class name) h = absurd cc

float_told : Tells is_float_base base.Float
float_told base.Float h = refl
float_told base.Int h = absurd cc
float_told base.Short h = absurd cc
float_told base.Char h = absurd cc
float_told base.Byte h = absurd cc
float_told base.Boolean h = absurd cc
float_told base.Long h = absurd cc
float_told base.Double h = absurd cc
float_told (base.Class name) h = absurd cc

double_told : Tells is_double_base base.Double
double_told base.Double h = refl
double_told base.Int h = absurd cc
double_told base.Short h = absurd cc
double_told base.Char h = absurd cc
double_told base.Byte h = absurd cc
double_told base.Boolean h = absurd cc
double_told base.Long h = absurd cc
double_told base.Float h = absurd cc
double_told (base.Class name) h = absurd cc

string_told : Tells is_string_base (base.Class (codes "java/lang/String"))
string_told (base.Class name) h = ap (λ (n : List ℕ). base.Class n) ((text_Decides name (codes "java/lang/String")).0 h)
string_told base.Int h = absurd cc
string_told base.Short h = absurd cc
string_told base.Char h = absurd cc
string_told base.Byte h = absurd cc
string_told base.Boolean h = absurd cc
string_told base.Long h = absurd cc
string_told base.Float h = absurd cc
string_told base.Double h = absurd cc

-- ---- a constant

fits_is : (fits : Bool) (value out : Option Constant) → fitting fits value ≡ Ok out → (fits ≡ true) × (out ≡ value)
fits_is true value out h = (refl, sym (let e : value ≡ out = cc in e))
fits_is false value out h = absurd cc

-- the constant of an entry is that of the field
constant_found : (pool : List Entry) (index : ℕ) (ty : FieldType) (value : Option Constant) → AllNameRight pool
    → (o : Option Entry) → slice_get pool index ≡ o → constant_in pool index ty o ≡ Ok value
    → IsConstantOf pool index ty value
constant_found pool index ty value right (Some (entry.Integer n)) at h =
    let f = fits_is (plain is_int_base ty) (Some (constant.Int n)) value h in
    subst (λ (v : Option Constant). IsConstantOf pool index ty v) (sym f.1) (int_found ty f.0, at)
constant_found pool index ty value right (Some (entry.Long n)) at h =
    let f = fits_is (plain is_long_base ty) (Some (constant.Long n)) value h in
    subst (λ (v : Option Constant). IsConstantOf pool index ty v) (sym f.1)
    (one_found is_long_base base.Long ty long_told f.0, at)
constant_found pool index ty value right (Some (entry.Str i)) at h =
    let f = fits_is (plain is_string_base ty)
    (option_map (λ units. constant.Text units) (string_units_at pool index)) value h in
    let r = right index (entry.Str i) at in
    let units : string_units_at pool index
    ≡ Some r.0 = ap (λ (o : Option Entry). option_and_then (units_at pool) (option_and_then string_index_in o)) at
    ∙ r.1 in
    let is : value ≡ Some (constant.Text r.0) = f.1 ∙ ap (option_map (λ units. constant.Text units)) units in
    subst (λ (v : Option Constant). IsConstantOf pool index ty v) (sym is)
    (one_found is_string_base (base.Class (codes "java/lang/String")) ty string_told f.0, units)
constant_found pool index ty value right (Some (entry.LeftOut tag)) at h = by (eqb tag 4) (eqb tag 6) refl refl h
  where
    by : (a b : Bool) → eqb tag 4 ≡ a → eqb tag 6 ≡ b
        → cond a (fitting (plain is_float_base ty) None)
        (cond b (fitting (plain is_double_base ty) None) (Err bad.BadIndex)) ≡ Ok value
        → IsConstantOf pool index ty value
    by true b ea eb g =
        let f = fits_is (plain is_float_base ty) None value g in
        subst (λ (v : Option Constant). IsConstantOf pool index ty v) (sym f.1)
        (inl (
          one_found is_float_base base.Float ty float_told f.0,
          at
              ∙ ap (λ (k : ℕ). Some (entry.LeftOut k)) (eqb-true tag 4 ea),
        ))
    by false true ea eb g =
        let f = fits_is (plain is_double_base ty) None value g in
        subst (λ (v : Option Constant). IsConstantOf pool index ty v) (sym f.1)
        (inr (
          one_found is_double_base base.Double ty double_told f.0,
          at
              ∙ ap (λ (k : ℕ). Some (entry.LeftOut k)) (eqb-true tag 6 eb),
        ))
    by false false ea eb g = absurd cc
constant_found pool index ty value right (Some (entry.Utf8 units)) at h = absurd cc
constant_found pool index ty value right (Some (entry.Class i)) at h = absurd cc
constant_found pool index ty value right (Some (entry.Field i j)) at h = absurd cc
constant_found pool index ty value right (Some (entry.Method i j)) at h = absurd cc
constant_found pool index ty value right (Some (entry.InterfaceMethod i j)) at h = absurd cc
constant_found pool index ty value right (Some (entry.NameAndType i j)) at h = absurd cc
constant_found pool index ty value right (Some entry.Gap) at h = absurd cc
constant_found pool index ty value right None at h = absurd cc

-- the constant that the field has by an entry is found
constant_only : (pool : List Entry) (index : ℕ) (ty : FieldType) (value : Option Constant)
    → IsConstantOf pool index ty value → constant_in pool index ty (slice_get pool index) ≡ Ok value
constant_only pool index ty (Some (constant.Int n)) h = rw (h.1, int_only ty h.0) refl
constant_only pool index ty (Some (constant.Long n)) h = rw (h.1, plain_only is_long_base ty base.Long h.0 refl) refl
constant_only pool index ty (Some (constant.Text units)) h = by (slice_get pool index) refl h.1
  where
    is : plain is_string_base ty ≡ true
    is = plain_only is_string_base ty (base.Class (codes "java/lang/String")) h.0 refl

    by : (o : Option Entry) → slice_get pool index ≡ o
        → option_and_then (units_at pool) (option_and_then string_index_in o) ≡ Some units
        → constant_in pool index ty o ≡ Ok (Some (constant.Text units))
    by (Some (entry.Str i)) e u = rw (is, h.1) refl
    by (Some (entry.Integer n)) e u = absurd cc
    by (Some (entry.Long n)) e u = absurd cc
    by (Some (entry.LeftOut tag)) e u = absurd cc
    by (Some (entry.Utf8 text)) e u = absurd cc
    by (Some (entry.Class i)) e u = absurd cc
    by (Some (entry.Field i j)) e u = absurd cc
    by (Some (entry.Method i j)) e u = absurd cc
    by (Some (entry.InterfaceMethod i j)) e u = absurd cc
    by (Some (entry.NameAndType i j)) e u = absurd cc
    by (Some entry.Gap) e u = absurd cc
    by None e u = absurd cc
constant_only pool index ty None (inl h) = rw (h.1, plain_only is_float_base ty base.Float h.0 refl) refl
constant_only pool index ty None (inr h) = rw (h.1, plain_only is_double_base ty base.Double h.0 refl) refl

-- the contents of a ConstantValue are read exactly where they are told
pub constant_exact : (pool : List Entry) (ty : FieldType) → AllNameRight pool
    → Exact (constant_value pool ty) (Spells text (λ _ info value. IsConstantValue pool ty info value))
constant_exact pool ty right = as_told (λ _ info value. IsConstantValue pool ty info value)
    (λ at info value h. (
      h.0,
      h.2.1.0,
      h.1,
      constant_found pool h.0 ty value right (slice_get pool h.0) refl
          (ap (λ (k : ℕ). constant_in pool k ty (slice_get pool k)) (sym h.2.1.1) ∙ h.2.2),
    ))
    (λ at info value h. (h.0, h.2, (h.0, (h.1, refl), constant_only pool h.0 ty value h.3)))
    (as_text (item_exact (λ index. constant_in pool index ty (slice_get pool index)) u2_exact))
