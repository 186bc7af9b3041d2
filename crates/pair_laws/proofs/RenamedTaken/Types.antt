-- A name or a type that breaks no rule for links in a class breaks none under its new name (JVMS 5.4.3.1, 5.4.4).
use Rattle.std.proofs.Common.{◌≡◌, ℕ, Bool, true, List, [], ◌∷◌, ◌++◌, map, Option, Some, None, Ok, refl, sym}
use Rattle.std.proofs.Common.{ap, ◌∙◌}
use Rattle.std.specs.List.{cons_option, flat_map}
use Rattle.std.specs.Option.{option_map, option_map_or}
use Rattle.jv_base.specs.Descriptors.{read_field, read_method}
use Rattle.jv_base.specs.Types.{field_text, method_text}
use Rattle.jv_base.specs.declared.types.Base.{Base}
use Rattle.jv_base.specs.declared.types.Base.TheVariants as base
use Rattle.jv_base.specs.declared.types.FieldType.{FieldType}
use Rattle.jv_base.proofs.FieldLaw.{read_field-only}
use Rattle.jv_base.proofs.MethodLaw.{read_method-only}
use Rattle.jv_base.proofs.Lists.{nil_parts}
use Rattle.class_model.specs.ConstantPool.{IsFieldText, IsMethodText}
use Rattle.class_model.specs.declared.class.Class.{Class}
use Rattle.class_pool.specs.Hierarchy.{class_named}
use Rattle.class_pool.specs.declared.id.ClassId.{ClassId}
use Rattle.class_pool.specs.declared.id.ClassId.TheVariants.{Prog}
use Rattle.link_check.specs.Profile.{base_kinds, class_kinds, field_text_kinds, method_text_kinds}
use Rattle.link_check.specs.Profile.{name_kinds, type_kinds, unless}
use Rattle.link_check.specs.declared.fault.ProfileKind.{ProfileKind}
use Rattle.link_check.specs.declared.fault.ProfileKind.TheVariants.{Inaccessible}
use Rattle.image_laws.proofs.SetImage.Access.{class_accessible_moved}
use Rattle.class_rename.specs.Names.{Names}
use Rattle.class_rename.specs.Renamed.{field_text_of, method_text_of, renamed_base, renamed_field_text}
use Rattle.class_rename.specs.Renamed.{renamed_method_text, renamed_method_type, renamed_type}
use Rattle.pair_laws.proofs.RenamedForm.Spelled.{method_type_spelled, type_spelled}
use Rattle.pair_laws.specs.RenamedImage.Naming.{is_class_there}
use Rattle.pair_laws.proofs.RenamedTaken.Placed.{IsPlaced, i, named_kept, named_new}

module _ (names : Names) (place back : ℕ → ℕ) (xs ys : List Class) (h : IsPlaced names place back xs ys) (n : ℕ)
    (own : is_class_there xs (Prog n) ≡ true) where
  -- ---- classes and types

  pub name_right : (name : List ℕ) → name_kinds xs n name ≡ [] → name_kinds ys (place n) (names.class name) ≡ []
  name_right name none = by (class_named xs name) refl none
    where
      by : (o : Option ClassId) → class_named xs name ≡ o → class_kinds xs n o ≡ []
          → name_kinds ys (place n) (names.class name) ≡ []
      by None is e = absurd cc
      by (Some c) is e =
          ap (class_kinds ys (place n)) (named_new names place back xs ys h name c is)
          ∙ ap (λ (t : Bool). unless t Inaccessible)
          (class_accessible_moved xs ys (i names place back xs ys h) (Prog n) c own
          (named_kept names place back xs ys h name c is))
          ∙ e

  pub base_right : (b : Base) → base_kinds xs n b ≡ [] → base_kinds ys (place n) (renamed_base names b) ≡ []
  base_right (base.Class name) none = name_right name none
  base_right base.Boolean none = refl
  base_right base.Byte none = refl
  base_right base.Char none = refl
  base_right base.Short none = refl
  base_right base.Int none = refl
  base_right base.Long none = refl
  base_right base.Float none = absurd cc
  base_right base.Double none = absurd cc

  pub names_right : (ns : List (List ℕ)) → flat_map (name_kinds xs n) ns ≡ []
      → flat_map (name_kinds ys (place n)) (map names.class ns) ≡ []
  names_right [] none = refl
  names_right (name ∷ ns) none =
      let nones = nil_parts (name_kinds xs n name) (flat_map (name_kinds xs n) ns) none in
      ap (λ (t : List ProfileKind). t ++ flat_map (name_kinds ys (place n)) (map names.class ns))
      (name_right name nones.0)
      ∙ names_right ns nones.1

  types_right : (tys : List FieldType) → flat_map (type_kinds xs n) tys ≡ []
      → flat_map (type_kinds ys (place n)) (map (renamed_type names) tys) ≡ []
  types_right [] none = refl
  types_right (ty ∷ tys) none =
      let nones = nil_parts (type_kinds xs n ty) (flat_map (type_kinds xs n) tys) none in
      ap (λ (t : List ProfileKind). t ++ flat_map (type_kinds ys (place n)) (map (renamed_type names) tys))
      (base_right ty.base nones.0)
      ∙ types_right tys nones.1

  -- the types of the parameters and of the result
  pub signature_right : (ret : Option FieldType) (args : List FieldType)
      → flat_map (type_kinds xs n) (cons_option ret args) ≡ []
      → flat_map (type_kinds ys (place n))
      (cons_option (option_map (renamed_type names) ret) (map (renamed_type names) args)) ≡ []
  signature_right None args none = types_right args none
  signature_right (Some ty) args none = types_right (ty ∷ args) none

  pub caught_right : (o : Option (List ℕ)) → option_map_or (name_kinds xs n) o [] ≡ []
      → option_map_or (name_kinds ys (place n)) (option_map names.class o) [] ≡ []
  caught_right None none = refl
  caught_right (Some name) none = name_right name none

  -- ---- descriptors

  pub field_text_right : (text : List ℕ) → IsFieldText text → field_text_kinds xs n (read_field text) ≡ []
      → field_text_kinds ys (place n) (read_field (renamed_field_text names text)) ≡ []
  field_text_right text good none =
      let ty = good.0 in
      let new = renamed_type names ty in
      let read : read_field text ≡ Ok ty = read_field-only text ty (good.1, sym good.2) in
      let spelled : renamed_field_text names text ≡ field_text new = ap (field_text_of names text) read in
      let again : read_field (renamed_field_text names text) ≡ Ok new =
      ap read_field spelled
      ∙ read_field-only (field_text new) new (type_spelled names h.form.class_name ty good.1, refl) in
      ap (field_text_kinds ys (place n)) again ∙ base_right ty.base (ap (field_text_kinds xs n) (sym read) ∙ none)

  pub method_text_right : (text : List ℕ) → IsMethodText text → method_text_kinds xs n (read_method text) ≡ []
      → method_text_kinds ys (place n) (read_method (renamed_method_text names text)) ≡ []
  method_text_right text good none =
      let ty = good.0 in
      let new = renamed_method_type names ty in
      let read : read_method text ≡ Ok ty = read_method-only text ty (good.1, sym good.2) in
      let spelled : renamed_method_text names text ≡ method_text new = ap (method_text_of names text) read in
      let again : read_method (renamed_method_text names text) ≡ Ok new =
      ap read_method spelled
      ∙ read_method-only (method_text new) new (method_type_spelled names h.form.class_name ty good.1, refl) in
      ap (method_text_kinds ys (place n)) again
      ∙ signature_right ty.ret ty.args (ap (method_text_kinds xs n) (sym read) ∙ none)
