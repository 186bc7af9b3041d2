-- Descriptors under new names spell the renamed types (JVMS 4.3).
use Rattle.std.proofs.Common.{◌≡◌, ℕ, ◌+◌, ◌≤◌, ◌==◌, ◌&&◌, Bool, List, map, Result, Ok, refl, sym, ap, subst, ◌∙◌}
use Rattle.std.specs.Prelude.{IsTrue, if◌then◌else◌}
use Rattle.std.specs.List.{fold}
use Rattle.std.proofs.lemmas.List.Folds.{fold-map}
use Rattle.jv_base.specs.Names.{is_class_name}
use Rattle.jv_base.specs.Types.{IsBase, IsFieldType, IsMethodType, argument_words, field_text, is_wide_base}
use Rattle.jv_base.specs.Types.{method_text}
use Rattle.jv_base.specs.Types.{words_of}
use Rattle.jv_base.specs.declared.types.Base.{Base}
use Rattle.jv_base.specs.declared.types.Base.TheVariants as base
use Rattle.jv_base.specs.declared.types.FieldType.{FieldType}
use Rattle.jv_base.specs.declared.types.MethodType.{MethodType}
use Rattle.jv_base.specs.declared.descriptors.BadDescriptor.{BadDescriptor}
use Rattle.jv_base.proofs.FieldLaw.{read_field-only}
use Rattle.jv_base.proofs.MethodLaw.{read_method-only}
use Rattle.class_rename.specs.Names.{Names}
use Rattle.class_rename.specs.Renamed.{field_text_of, method_text_of, renamed_base, renamed_field_text}
use Rattle.class_rename.specs.Renamed.{renamed_method_text, renamed_method_type, renamed_type}
use Rattle.class_laws.proofs.Mapped.{all_mapped, some_mapped}

-- a text is the descriptor of one type
pub one_type : (ty other : FieldType) → IsFieldType ty → IsFieldType other → field_text ty ≡ field_text other
    → ty ≡ other
one_type ty other is then_is same =
    let e : Ok ty ≡ Ok other =
    sym (read_field-only (field_text ty) ty (is, refl))
    ∙ read_field-only (field_text ty) other (then_is, sym same) in
    of_ok ty other e
  where
    of_ok : (x y : FieldType) → Path (Result FieldType BadDescriptor) (Ok x) (Ok y) → x ≡ y
    of_ok x y e = cc

pub one_method_type : (ty other : MethodType) → IsMethodType ty → IsMethodType other
    → method_text ty ≡ method_text other
    → ty ≡ other
one_method_type ty other is then_is same =
    let e : Ok ty ≡ Ok other =
    sym (read_method-only (method_text ty) ty (is, refl))
    ∙ read_method-only (method_text ty) other (then_is, sym same) in
    of_ok ty other e
  where
    of_ok : (x y : MethodType) → Path (Result MethodType BadDescriptor) (Ok x) (Ok y) → x ≡ y
    of_ok x y e = cc

module _ (names : Names) where
  pub field_text_is : (ty : FieldType) → IsFieldType ty
      → renamed_field_text names (field_text ty) ≡ field_text (renamed_type names ty)
  field_text_is ty is = ap (field_text_of names (field_text ty)) (read_field-only (field_text ty) ty (is, refl))

  pub method_text_is : (ty : MethodType) → IsMethodType ty
      → renamed_method_text names (method_text ty) ≡ method_text (renamed_method_type names ty)
  method_text_is ty is = ap (method_text_of names (method_text ty)) (read_method-only (method_text ty) ty (is, refl))

  -- a type takes as many words as before
  wide_stays : (b : Base) → is_wide_base (renamed_base names b) ≡ is_wide_base b
  wide_stays (base.Class name) = refl
  wide_stays base.Boolean = refl
  wide_stays base.Byte = refl
  wide_stays base.Char = refl
  wide_stays base.Short = refl
  wide_stays base.Int = refl
  wide_stays base.Long = refl
  wide_stays base.Float = refl
  wide_stays base.Double = refl

  words_stay : (ty : FieldType) → words_of (renamed_type names ty) ≡ words_of ty
  unfolding words_of
  words_stay ty = ap (λ (w : Bool). if ty.dims == 0 && w then 2 else 1) (wide_stays ty.base)

  pub arguments_stay : (args : List FieldType) → argument_words (map (renamed_type names) args) ≡ argument_words args
  unfolding argument_words
  arguments_stay args = fold-map (λ (a : ℕ) (t : FieldType). a + words_of t) (renamed_type names) 0 args
      ∙ (λ i. fold (λ (a : ℕ) (t : FieldType). a + words_stay t i) 0 args)

-- types of classes whose names stay names have descriptors
module _ (names : Names)
    (class_name : (a : List ℕ) → IsTrue (is_class_name a) → IsTrue (is_class_name (names.class a))) where
  base_formed : (b : Base) → IsBase b → IsBase (renamed_base names b)
  base_formed (base.Class name) h = class_name name h
  base_formed base.Boolean h = tt
  base_formed base.Byte h = tt
  base_formed base.Char h = tt
  base_formed base.Short h = tt
  base_formed base.Int h = tt
  base_formed base.Long h = tt
  base_formed base.Float h = tt
  base_formed base.Double h = tt

  pub type_spelled : (ty : FieldType) → IsFieldType ty → IsFieldType (renamed_type names ty)
  type_spelled ty h = record { dimensions = h.dimensions; named = base_formed ty.base h.named }

  pub method_type_spelled : (ty : MethodType) → IsMethodType ty → IsMethodType (renamed_method_type names ty)
  method_type_spelled ty h = record {
    arguments = all_mapped IsFieldType IsFieldType (renamed_type names) type_spelled ty.args h.arguments;
    words = subst (λ (n : ℕ). n ≤ 255) (sym (arguments_stay names ty.args)) h.words;
    returned = some_mapped IsFieldType IsFieldType (renamed_type names) type_spelled ty.ret h.returned;
  }
