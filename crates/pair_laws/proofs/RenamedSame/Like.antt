-- A descriptor under new names asks for the same operands, and stores the same (JVMS 4.3).
use Rattle.std.proofs.Common.{◌≡◌, ℕ, ℤ, ◌==◌, true, false, List, [], ◌∷◌, map, Some, None, Result, Ok}
use Rattle.std.proofs.Common.{Err}
use Rattle.std.proofs.Common.{refl, sym, ap, ◌∙◌}
use Rattle.std.specs.Prelude.{IsTrue, if◌then◌else◌}
use Rattle.std.specs.Option.{option_map, option_map_or}
use Rattle.std.specs.Result.{result_ok}
use Rattle.jv_base.specs.Descriptors.{read_field, read_method}
use Rattle.jv_base.specs.Names.{is_class_name}
use Rattle.jv_base.specs.Types.{IsFieldType, IsMethodType, field_text, method_text}
use Rattle.jv_base.specs.declared.descriptors.BadDescriptor.{BadDescriptor}
use Rattle.jv_base.specs.declared.types.Base.{Base}
use Rattle.jv_base.specs.declared.types.Base.TheVariants as base
use Rattle.jv_base.specs.declared.types.FieldType.{FieldType}
use Rattle.jv_base.specs.declared.types.MethodType.{MethodType}
use Rattle.jv_base.proofs.FieldLaw.{read_field-found, read_field-only}
use Rattle.jv_base.proofs.MethodLaw.{read_method-found, read_method-only}
use Rattle.class_rename.specs.Names.{Names}
use Rattle.class_rename.specs.Renamed.{renamed_base, renamed_method_type, renamed_type}
use Rattle.jvm_model.specs.Types.{kind_of, kind_of_base, narrowed, stored}
use Rattle.jvm_model.specs.Value.{Value, Int, Long, Null, Ref, Lit}
use Rattle.image_laws.specs.ViewImage.ImageView.{LikeDescriptors}
use Rattle.pair_laws.proofs.RenamedForm.Spelled.{method_type_spelled, type_spelled}
use Rattle.pair_laws.specs.RenamedImage.Renaming.{is_method_text}
use Rattle.pair_laws.proofs.RenamedImage.Descriptors.{field_is_none, method_is_one}

differ : (ty : FieldType) (other : MethodType) → field_text ty ≡ method_text other → ⊥
differ ty other same =
    let wrong : false ≡ true = sym (field_is_none ty) ∙ ap is_method_text same ∙ method_is_one other in
    cc

-- a field's descriptor is no method's, and the other way round
no_method : (ty : FieldType) → result_ok (read_method (field_text ty)) ≡ None
no_method ty = by (read_method (field_text ty)) refl
  where
    by : (r : Result MethodType BadDescriptor) → read_method (field_text ty) ≡ r
        → result_ok (read_method (field_text ty)) ≡ None
    by (Ok other) read = absurd (differ ty other (sym (read_method-found (field_text ty) other read).1))
    by (Err e) read = ap result_ok read

no_field : (ty : MethodType) → result_ok (read_field (method_text ty)) ≡ None
no_field ty = by (read_field (method_text ty)) refl
  where
    by : (r : Result FieldType BadDescriptor) → read_field (method_text ty) ≡ r
        → result_ok (read_field (method_text ty)) ≡ None
    by (Ok other) read = absurd (differ other ty (read_field-found (method_text ty) other read).1)
    by (Err e) read = ap result_ok read

field_read : (ty : FieldType) → IsFieldType ty → result_ok (read_field (field_text ty)) ≡ Some ty
field_read ty is = ap result_ok (read_field-only (field_text ty) ty (is, refl))

method_read : (ty : MethodType) → IsMethodType ty → result_ok (read_method (method_text ty)) ≡ Some ty
method_read ty is = ap result_ok (read_method-only (method_text ty) ty (is, refl))

module _ (names : Names)
    (class_name : (a : List ℕ) → IsTrue (is_class_name a) → IsTrue (is_class_name (names.class a))) where
  base_kind : (b : Base) → kind_of_base (renamed_base names b) ≡ kind_of_base b
  base_kind (base.Class name) = refl
  base_kind base.Boolean = refl
  base_kind base.Byte = refl
  base_kind base.Char = refl
  base_kind base.Short = refl
  base_kind base.Int = refl
  base_kind base.Long = refl
  base_kind base.Float = refl
  base_kind base.Double = refl

  type_kind : (ty : FieldType) → kind_of (renamed_type names ty) ≡ kind_of ty
  type_kind ty =
      λ i. if ty.dims == 0 then base_kind ty.base i else kind_of (record { dims = 1; base = ty.base })

  kinds : (args : List FieldType) → map kind_of (map (renamed_type names) args) ≡ map kind_of args
  kinds [] = refl
  kinds (ty ∷ args) = λ i. type_kind ty i ∷ kinds args i

  base_narrowed : (b : Base) (z : ℤ) → narrowed (renamed_base names b) z ≡ narrowed b z
  base_narrowed (base.Class name) z = refl
  base_narrowed base.Boolean z = refl
  base_narrowed base.Byte z = refl
  base_narrowed base.Char z = refl
  base_narrowed base.Short z = refl
  base_narrowed base.Int z = refl
  base_narrowed base.Long z = refl
  base_narrowed base.Float z = refl
  base_narrowed base.Double z = refl

  same_stored : (ty : FieldType) (v : Value) → stored (renamed_type names ty) v ≡ stored ty v
  same_stored ty (Int z) = ap (λ y. Int (if ty.dims == 0 then y else z)) (base_narrowed ty.base z)
  same_stored ty (Long z) = refl
  same_stored ty Null = refl
  same_stored ty (Ref n) = refl
  same_stored ty (Lit units) = refl

  pub field_like : (ty : FieldType) → IsFieldType ty
      → LikeDescriptors (field_text ty) (field_text (renamed_type names ty))
  field_like ty is =
      let old = field_read ty is in
      let new = field_read (renamed_type names ty) (type_spelled names class_name ty is) in
      record {
        field = ap (option_map kind_of) new ∙ ap Some (type_kind ty) ∙ sym (ap (option_map kind_of) old);
        arguments =
            ap (option_map (λ (t : MethodType). map kind_of t.args)) (no_method (renamed_type names ty))
            ∙ sym (ap (option_map (λ (t : MethodType). map kind_of t.args)) (no_method ty));
        stores = λ v.
            ap (λ o. option_map_or (λ t. stored t v) o v) new ∙ same_stored ty v
            ∙ sym (ap (λ o. option_map_or (λ t. stored t v) o v) old);
      }

  pub method_like : (ty : MethodType) → IsMethodType ty
      → LikeDescriptors (method_text ty) (method_text (renamed_method_type names ty))
  method_like ty is =
      let old = method_read ty is in
      let new = method_read (renamed_method_type names ty) (method_type_spelled names class_name ty is) in
      record {
        field = ap (option_map kind_of) (no_field (renamed_method_type names ty))
            ∙ sym (ap (option_map kind_of) (no_field ty));
        arguments =
            ap (option_map (λ (t : MethodType). map kind_of t.args)) new ∙ ap Some (kinds ty.args)
            ∙ sym (ap (option_map (λ (t : MethodType). map kind_of t.args)) old);
        stores = λ v.
            ap (λ o. option_map_or (λ t. stored t v) o v) (no_field (renamed_method_type names ty))
            ∙ sym (ap (λ o. option_map_or (λ t. stored t v) o v) (no_field ty));
      }
