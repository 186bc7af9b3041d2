-- Names and descriptors of members under new names: those of the library stay, and no two become one (JVMS 4.3).
use Rattle.std.proofs.Common.{◌≡◌, ℕ, zero, suc, Bool, true, false, List, [], ◌∷◌, map, slice_get}
use Rattle.std.proofs.Common.{Option, Some, None, refl, sym, ap, subst, ◌∙◌}
use Rattle.std.specs.Prelude.{IfSome, if◌then◌else◌}
use Rattle.std.specs.Option.{option_map}
use Rattle.std.specs.List.{AllByRecursion}
use Rattle.jv_base.specs.Types.{IsFieldType, IsMethodType, base_text, field_text, method_text}
use Rattle.jv_base.specs.declared.types.Base.{Base}
use Rattle.jv_base.specs.declared.types.Base.TheVariants as base
use Rattle.jv_base.specs.declared.types.FieldType.{FieldType}
use Rattle.jv_base.specs.declared.types.MethodType.{MethodType}
use Rattle.class_model.specs.declared.class.Class.{Class}
use Rattle.class_pool.specs.Found.{MemberRow, NameAndType, rows_in}
use Rattle.class_pool.specs.declared.id.ClassId.TheVariants.{Lib}
use Rattle.class_rename.specs.Names.{Names}
use Rattle.class_rename.specs.Renamed.{renamed_base, renamed_field_text, renamed_method_text, renamed_method_type}
use Rattle.class_rename.specs.Renamed.{renamed_type}
use Rattle.pair_laws.specs.RenamedForm.Form.{IsKnownMethodType, IsKnownType}
use Rattle.pair_laws.proofs.RenamedForm.Apart.{one_renamed_method, one_renamed_type}
use Rattle.pair_laws.proofs.RenamedForm.Spelled.{field_text_is, method_text_is, method_type_spelled, one_method_type}
use Rattle.pair_laws.proofs.RenamedForm.Spelled.{one_type, type_spelled}
use Rattle.pair_laws.specs.RenamedImage.Renaming.{IsMemberName, KeepsNamesApart, is_known, is_library_name}
use Rattle.pair_laws.specs.RenamedImage.Renaming.{is_method_text, renamed_named}
use Rattle.pair_laws.proofs.RenamedImage.LibraryTypes.{IsDescribed, library_row_described}

-- ---- a descriptor tells whether it is that of a method

base_is_none : (b : Base) → is_method_text (base_text b) ≡ false
unfolding base_text
base_is_none (base.Class name) = refl
base_is_none base.Boolean = refl
base_is_none base.Byte = refl
base_is_none base.Char = refl
base_is_none base.Short = refl
base_is_none base.Int = refl
base_is_none base.Long = refl
base_is_none base.Float = refl
base_is_none base.Double = refl

dims_none : (dims : ℕ) (b : Base) → is_method_text (field_text (record { dims = dims; base = b })) ≡ false
unfolding field_text
dims_none zero b = base_is_none b
dims_none (suc dims) b = refl

pub field_is_none : (ty : FieldType) → is_method_text (field_text ty) ≡ false
field_is_none ty = dims_none ty.dims ty.base

pub method_is_one : (ty : MethodType) → is_method_text (method_text ty) ≡ true
unfolding method_text
method_is_one ty = refl

-- ---- descriptors under new names

module _ (names : Names) where
  pub field_named : (name : List ℕ) (ty : FieldType) → IsFieldType ty
      → renamed_named names (name, field_text ty) ≡ (names.field name, field_text (renamed_type names ty))
  field_named name ty is =
      ap (λ (b : Bool). if b then (names.method name (field_text ty), renamed_method_text names (field_text ty))
      else (names.field name, renamed_field_text names (field_text ty))) (field_is_none ty)
      ∙ ap (λ (t : List ℕ). (names.field name, t)) (field_text_is names ty is)

  pub method_named : (name : List ℕ) (ty : MethodType) → IsMethodType ty
      → renamed_named names (name, method_text ty)
      ≡ (names.method name (method_text ty), method_text (renamed_method_type names ty))
  method_named name ty is =
      ap (λ (b : Bool). if b then (names.method name (method_text ty), renamed_method_text names (method_text ty))
      else (names.field name, renamed_field_text names (method_text ty))) (method_is_one ty)
      ∙ ap (λ (t : List ℕ). (names.method name (method_text ty), t)) (method_text_is names ty is)

  -- the names of a member with a descriptor that spells this type
  pub field_spelled : (n : NameAndType) (ty : FieldType) → IsFieldType ty → field_text ty ≡ n.1
      → renamed_named names n ≡ (names.field n.0, field_text (renamed_type names ty))
  field_spelled n ty is spells =
      ap (λ (t : List ℕ). renamed_named names (n.0, t)) (sym spells) ∙ field_named n.0 ty is

  pub method_spelled : (n : NameAndType) (ty : MethodType) → IsMethodType ty → method_text ty ≡ n.1
      → renamed_named names n ≡ (names.method n.0 n.1, method_text (renamed_method_type names ty))
  method_spelled n ty is spells =
      ap (λ (t : List ℕ). renamed_named names (n.0, t)) (sym spells) ∙ method_named n.0 ty is
      ∙ ap (λ (t : List ℕ). (names.method n.0 t, method_text (renamed_method_type names ty))) spells

  module _ (xs : List Class) (apart : KeepsNamesApart names xs) where
    -- ---- types of the library stay

    base_stays : (ty : FieldType) (b : Base) → ty.base ≡ b → IsKnownType is_library_name ty → renamed_base names b ≡ b
    base_stays ty (base.Class name) e known = ap base.Class (apart.library_class name (known name e))
    base_stays ty base.Boolean e known = refl
    base_stays ty base.Byte e known = refl
    base_stays ty base.Char e known = refl
    base_stays ty base.Short e known = refl
    base_stays ty base.Int e known = refl
    base_stays ty base.Long e known = refl
    base_stays ty base.Float e known = refl
    base_stays ty base.Double e known = refl

    type_stays : (ty : FieldType) → IsKnownType is_library_name ty → renamed_type names ty ≡ ty
    type_stays ty known = ap (λ (b : Base). record { dims = ty.dims; base = b }) (base_stays ty ty.base refl known)

    args_stay : (args : List FieldType) → AllByRecursion (IsKnownType is_library_name) args
        → map (renamed_type names) args ≡ args
    args_stay [] known = refl
    args_stay (ty ∷ args) known = λ i. type_stays ty known.0 i ∷ args_stay args known.1 i

    ret_stays : (ret : Option FieldType) → IfSome ret (IsKnownType is_library_name)
        → option_map (renamed_type names) ret ≡ ret
    ret_stays None known = refl
    ret_stays (Some ty) known = ap Some (type_stays ty known)

    method_type_stays : (ty : MethodType) → IsKnownMethodType is_library_name ty → renamed_method_type names ty ≡ ty
    method_type_stays ty known =
        let args = args_stay ty.args known.arguments in
        let ret = ret_stays ty.ret known.returned in
        λ i. record { args = args i; ret = ret i }

    -- a member of the library keeps its name and descriptor
    pub library_row_stays : (id k : ℕ) (row : MemberRow) → slice_get (rows_in xs (Lib id)) k ≡ Some row
        → renamed_named names row.named ≡ row.named
    library_row_stays id k row at =
        by row.is_method refl (library_row_described is_library_name (λ name h. h) xs id k row at)
      where
        by : (t : Bool) → row.is_method ≡ t → IsDescribed is_library_name t row.named.1
            → renamed_named names row.named ≡ row.named
        by false e (ty, is, known, spells) =
            let name = apart.library_field id k row at e in
            let text = ap field_text (type_stays ty known) ∙ spells in
            field_spelled row.named ty is spells ∙ (λ i. (name i, text i))
        by true e (ty, is, known, spells) =
            let name = apart.library_method id k row at e in
            let text = ap method_text (method_type_stays ty known) ∙ spells in
            method_spelled row.named ty is spells ∙ (λ i. (name i, text i))

    -- ---- no two members become one

    -- the name of a member, with a descriptor of its kind
    pub record Declared (n : NameAndType) : Type 0 where
      pub method : Bool
      pub named : IsMemberName xs method n
      pub typed : IsDescribed (is_known xs) method n.1

    kinds_differ : (ty : FieldType) (other : MethodType) → field_text ty ≡ method_text other → ⊥
    kinds_differ ty other same =
        let wrong : false ≡ true = sym (field_is_none ty) ∙ ap is_method_text same ∙ method_is_one other in
        cc

    one_of : (t u : Bool) (a b : NameAndType) → IsMemberName xs t a → IsDescribed (is_known xs) t a.1
        → IsMemberName xs u b → IsDescribed (is_known xs) u b.1
        → renamed_named names a ≡ renamed_named names b → a ≡ b
    one_of false false a b named (ty, is, known, spells) then_named (other, then_is, then_known, then_spells) same =
        let both = sym (field_spelled a ty is spells) ∙ same ∙ field_spelled b other then_is then_spells in
        let types = one_renamed_type names (is_known xs) apart.one_class ty other known then_known
        (one_type (renamed_type names ty) (renamed_type names other) (type_spelled names apart.class_name ty is)
        (type_spelled names apart.class_name other then_is) (ap (λ (n : NameAndType). n.1) both)) in
        let text : a.1 ≡ b.1 = sym spells ∙ ap field_text types ∙ then_spells in
        let name = apart.one_field a b named then_named (ap (λ (n : NameAndType). n.0) both) in
        λ i. (name i, text i)
    one_of true true a b named (ty, is, known, spells) then_named (other, then_is, then_known, then_spells) same =
        let both = sym (method_spelled a ty is spells) ∙ same ∙ method_spelled b other then_is then_spells in
        let types = one_renamed_method names (is_known xs) apart.one_class ty other known then_known
        (one_method_type (renamed_method_type names ty) (renamed_method_type names other)
        (method_type_spelled names apart.class_name ty is) (method_type_spelled names apart.class_name other then_is)
        (ap (λ (n : NameAndType). n.1) both)) in
        let text : a.1 ≡ b.1 = sym spells ∙ ap method_text types ∙ then_spells in
        let name = apart.one_method a.0 b.0 a.1 named
        (subst (λ (d : List ℕ). IsMemberName xs true (b.0, d)) (sym text) then_named)
        (ap (λ (n : NameAndType). n.0) both ∙ ap (names.method b.0) (sym text)) in
        λ i. (name i, text i)
    one_of false true a b named (ty, is, known, spells) then_named (other, then_is, then_known, then_spells) same =
        let both = sym (field_spelled a ty is spells) ∙ same ∙ method_spelled b other then_is then_spells in
        absurd (kinds_differ (renamed_type names ty) (renamed_method_type names other)
        (ap (λ (n : NameAndType). n.1) both))
    one_of true false a b named (ty, is, known, spells) then_named (other, then_is, then_known, then_spells) same =
        let both = sym (method_spelled a ty is spells) ∙ same ∙ field_spelled b other then_is then_spells in
        absurd (kinds_differ (renamed_type names other) (renamed_method_type names ty)
        (sym (ap (λ (n : NameAndType). n.1) both)))

    pub one_member : (a b : NameAndType) → Declared a → Declared b → renamed_named names a ≡ renamed_named names b
        → a ≡ b
    one_member a b d e same = one_of d.method e.method a b d.named d.typed e.named e.typed same
