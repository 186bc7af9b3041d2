-- Each field of a class with a ConstantValue is among its fields.
use Rattle.std.proofs.Common.{◌≡◌, ◌∙◌, ℕ, zero, suc, ◌+◌, true, false, ◌&&◌, List, [], ◌∷◌, ◌++◌, length, map}
use Rattle.std.proofs.Common.{Option, Some, None}
use Rattle.std.proofs.Common.{get_or, slice_get, Result, Ok, Err, refl, sym, ap, subst}
use Rattle.std.specs.Prelude.{IfOk, is_some}
use Rattle.std.specs.List.{All, list_any, position}
use Rattle.std.specs.Option.{option_and_then, option_map}
use Rattle.std.proofs.lemmas.List.{get_or-append-add, length-map}
use Rattle.std.proofs.lemmas.List.Elements.{All-cons, All-nil}
use Rattle.std.proofs.lemmas.Option.{get_or_from_slice_get}
use Rattle.jv_base.specs.Names.{is_text}
use Rattle.jv_base.specs.Types.{field_text}
use Rattle.jv_base.proofs.Equality.{text_Decides, text_sym}
use Rattle.class_model.specs.declared.class.Class.{Class}
use Rattle.class_model.specs.declared.class.Constant.{Constant}
use Rattle.class_model.specs.declared.class.Field.{Field}
use Rattle.class_model.specs.declared.class.Method.{Method}
use Rattle.class_pool.specs.Found.{declared_in}
use Rattle.class_pool.specs.Hierarchy.{class_named}
use Rattle.class_pool.specs.Members.{is_field, is_method, member_named, or_method}
use Rattle.class_pool.specs.declared.id.ClassId.{ClassId}
use Rattle.class_pool.specs.declared.id.ClassId.TheVariants.{Prog}
use Rattle.class_pool.specs.declared.id.MemberAt.{MemberAt}
use Rattle.jvm_model.specs.Value.{Key, same_key}
use Rattle.run_heap.specs.Targets.{HasConstants}
use Rattle.set_view.specs.ViewOf.{constant_at, member_of, shape_of, value_of}
use Rattle.set_meanings.specs.bodies.FieldKeys.{field_key}
use Rattle.set_meanings.proofs.Searching.{any_at, any_mapped}

all_of : (class : List ℕ) (fs : List Field) → All (λ (k : Key). k.class ≡ class) (map (field_key class) fs)
all_of class [] = All-nil (λ (k : Key). k.class ≡ class)
all_of class (f ∷ fs) =
    All-cons (λ (k : Key). k.class ≡ class) (field_key class f) (map (field_key class) fs) refl (all_of class fs)

abbrev no_value : Option Constant
no_value = None

abbrev of_fields : List Field → List (Option Constant)
of_fields fs = map (λ (f : Field). f.constant) fs

abbrev of_methods : List Method → List (Option Constant)
of_methods ms = map (λ (m : Method). no_value) ms

-- of the methods nothing is told
no_constant : (gs : List (Option Constant)) (ms : List Method) (j : ℕ)
    → option_and_then (λ (x : Option Constant). x) (slice_get (gs ++ of_methods ms) (length gs + j)) ≡ no_value
no_constant gs ms j = by (slice_get (gs ++ of_methods ms) (length gs + j)) refl
  where
    all_none : (xs : List Method) (i : ℕ) → get_or (of_methods xs) i no_value ≡ no_value
    all_none [] i = refl
    all_none (x ∷ xs) zero = refl
    all_none (x ∷ xs) (suc i) = all_none xs i

    by : (o : Option (Option Constant)) → slice_get (gs ++ of_methods ms) (length gs + j) ≡ o
        → option_and_then (λ (x : Option Constant). x) o ≡ no_value
    by None e = refl
    by (Some x) e =
        sym (get_or_from_slice_get (gs ++ of_methods ms) (length gs + j) x no_value e)
        ∙ get_or-append-add gs (of_methods ms) j no_value ∙ all_none ms j

module _ (classes : List Class) (class : List ℕ) (n : ℕ) (c : Class) (here : class_named classes class ≡ Some (Prog n))
    (is : slice_get classes n ≡ Some c) (k : Key) (own : k.class ≡ class) where
  -- the constant of the member with a number
  abbrev told : Option ℕ → Option Constant
  told o = option_and_then (λ (i : ℕ). option_and_then (λ (x : Option Constant). x)
      (slice_get (of_fields c.fields ++ of_methods c.methods) i)) o

  told_so : option_and_then (constant_at classes) (member_of classes k) ≡ told (member_named c k.name k.descriptor)
  told_so =
      ap (λ (o : Option ClassId). option_and_then (constant_at classes)
      (option_and_then (declared_in classes (k.name, k.descriptor)) o)) (ap (class_named classes) own ∙ here)
      ∙ ap (λ (o : Option Class). option_and_then (constant_at classes) (option_map at
      (option_and_then (λ (d : Class). member_named d k.name k.descriptor) o))) is
      ∙ each (member_named c k.name k.descriptor)
    where
      at : ℕ → MemberAt
      at i = record { class = Prog n; index = i }

      each : (o : Option ℕ) → option_and_then (constant_at classes) (option_map at o) ≡ told o
      each None = refl
      each (Some i) =
          ap (λ (o : Option Class). option_and_then (λ (d : Class). option_and_then (λ (x : Option Constant). x)
          (slice_get (of_fields d.fields ++ of_methods d.methods) i)) o) is

  field_alike : (f : Field) → is_field k.name k.descriptor f ≡ same_key k (field_key class f)
  field_alike f =
      ap (λ b. b && is_text k.descriptor (field_text f.ty)) (text_sym f.name k.name)
      ∙ ap (λ b. b && is_text k.name f.name && is_text k.descriptor (field_text f.ty))
      (sym ((text_Decides k.class class).1 own))

  among : (o : Option ℕ) → position (is_field k.name k.descriptor) c.fields ≡ o
      → is_some (told (or_method c k.name k.descriptor o)) ≡ true
      → list_any (same_key k) (map (field_key class) c.fields) ≡ true
  among (Some i) e some =
      sym (any_mapped (same_key k) (is_field k.name k.descriptor) (field_key class) field_alike c.fields)
      ∙ any_at (is_field k.name k.descriptor) c.fields i e
  among None e some = by (position (is_method k.name k.descriptor) c.methods) some
    where
      by : (o : Option ℕ) → is_some (told (option_map (λ j. length c.fields + j) o)) ≡ true
          → list_any (same_key k) (map (field_key class) c.fields) ≡ true
      by None h = let e : false ≡ true = h in absurd cc
      by (Some j) h =
          let none : told (Some (length c.fields + j)) ≡ no_value =
          ap (λ (i : ℕ). told (Some (i + j))) (sym (length-map c.fields (λ (f : Field). f.constant)))
          ∙ no_constant (of_fields c.fields) c.methods j in
          let e : false ≡ true = sym (ap is_some none) ∙ h in absurd cc

kept_some : {A B : Type 0} (f : A → B) (o : Option A) → is_some (option_map f o) ≡ is_some o
kept_some f None = refl
kept_some f (Some x) = refl

-- the fields of a class, by their names
pub has_constants : (classes : List Class) (class : List ℕ) (n : ℕ) (c : Class)
    → class_named classes class ≡ Some (Prog n) → slice_get classes n ≡ Some c
    → HasConstants (shape_of classes) class (map (field_key class) c.fields)
has_constants classes class n c here is = (
  all_of class c.fields,
  λ k own some.
      among classes class n c here is k own (position (is_field k.name k.descriptor) c.fields) refl
      (ap is_some (sym (told_so classes class n c here is k own))
      ∙ sym (kept_some value_of (option_and_then (constant_at classes) (member_of classes k))) ∙ some),
)

-- and of those that were made
pub keys_told : {E : Type 0} (classes : List Class) (class : List ℕ) (n : ℕ) (c : Class) (r : Result (List Key) E)
    → class_named classes class ≡ Some (Prog n) → slice_get classes n ≡ Some c
    → IfOk r (λ keys. keys ≡ map (field_key class) c.fields) → IfOk r (HasConstants (shape_of classes) class)
keys_told classes class n c (Ok keys) here is h =
    subst (HasConstants (shape_of classes) class) (sym h) (has_constants classes class n c here is)
keys_told classes class n c (Err e) here is h = tt
