-- Members whose names and types are told apart stay apart (JVMS 4.5, 4.6).
use Rattle.std.proofs.Common.{◌≡◌, ℕ, Bool, true, List, [], ◌∷◌, map, Option, Some, None, refl}
use Rattle.std.proofs.Common.{ap}
use Rattle.std.specs.Option.{IfSome, option_map}
use Rattle.std.specs.List.{AllByRecursion}
use Rattle.jv_base.specs.Types.{field_text, method_text}
use Rattle.jv_base.specs.declared.types.Base.{Base}
use Rattle.jv_base.specs.declared.types.Base.TheVariants as base
use Rattle.jv_base.specs.declared.types.FieldType.{FieldType}
use Rattle.jv_base.specs.declared.types.MethodType.{MethodType}
use Rattle.class_model.specs.Flags.{is_interface}
use Rattle.class_model.specs.Members.{FieldsDiffer, MethodsDiffer}
use Rattle.class_model.specs.WellFormed.{IsGoodField, IsGoodMethod, IsWellFormed}
use Rattle.class_model.specs.declared.class.Class.{Class}
use Rattle.class_model.specs.declared.class.Field.{Field}
use Rattle.class_model.specs.declared.class.Method.{Method}
use Rattle.class_rename.specs.Names.{Names}
use Rattle.class_rename.specs.Renamed.{renamed_base, renamed_field, renamed_method, renamed_method_type, renamed_type}
use Rattle.pair_laws.specs.RenamedForm.Form.{IsKnownMethodType, IsKnownType, KeepsApart, KeepsForm, TellsApart}
use Rattle.pair_laws.proofs.RenamedForm.Formed.{method_type_formed, type_formed}
use Rattle.pair_laws.proofs.RenamedForm.Spelled.{one_method_type, one_type}

-- ---- two elements of a list

module _ {A : Type 0} (P Q : A → Type 0) where
  all_both : (xs : List A) → AllByRecursion P xs → AllByRecursion Q xs → AllByRecursion (λ (x : A). P x × Q x) xs
  all_both [] h k = tt
  all_both (x ∷ xs) h k = ((h.0, k.0), all_both xs h.1 k.1)

module _ {A : Type 0} (P : A → Type 0) (R S : A → A → Type 0) (each : (x y : A) → P x → P y → R x y → S x y) where
  with_one : (x : A) (ys : List A) → P x → AllByRecursion P ys → AllByRecursion (R x) ys → AllByRecursion (S x) ys
  with_one x [] p all h = tt
  with_one x (y ∷ ys) p all h = (each x y p all.0 h.0, with_one x ys p all.1 h.1)

  with_all : (xs ys : List A) → AllByRecursion P xs → AllByRecursion P ys
      → AllByRecursion (λ (x : A). AllByRecursion (R x) ys) xs → AllByRecursion (λ (x : A). AllByRecursion (S x) ys) xs
  with_all [] ys all others h = tt
  with_all (x ∷ xs) ys all others h = (with_one x ys all.0 others h.0, with_all xs ys all.1 others h.1)

-- ---- no two types become one

module _ (names : Names) (known : List ℕ → Bool)
    (one_class : (a b : List ℕ) → known a ≡ true → known b ≡ true → names.class a ≡ names.class b → a ≡ b) where
  simple : (a b : Base) → a ≡ renamed_base names b → ((n : List ℕ) → a ≡ base.Class n → ⊥) → a ≡ b
  simple a (base.Class y) same none = absurd (none (names.class y) same)
  simple a base.Boolean same none = same
  simple a base.Byte same none = same
  simple a base.Char same none = same
  simple a base.Short same none = same
  simple a base.Int same none = same
  simple a base.Long same none = same
  simple a base.Float same none = same
  simple a base.Double same none = same

  one_base : (ty other : FieldType) (a b : Base) → ty.base ≡ a → other.base ≡ b → IsKnownType known ty
      → IsKnownType known other
      → renamed_base names a ≡ renamed_base names b → a ≡ b
  one_base ty other (base.Class x) (base.Class y) e f is then_is same =
      ap base.Class (one_class x y (is x e) (then_is y f) cc)
  one_base ty other (base.Class x) base.Boolean e f is then_is same = absurd cc
  one_base ty other (base.Class x) base.Byte e f is then_is same = absurd cc
  one_base ty other (base.Class x) base.Char e f is then_is same = absurd cc
  one_base ty other (base.Class x) base.Short e f is then_is same = absurd cc
  one_base ty other (base.Class x) base.Int e f is then_is same = absurd cc
  one_base ty other (base.Class x) base.Long e f is then_is same = absurd cc
  one_base ty other (base.Class x) base.Float e f is then_is same = absurd cc
  one_base ty other (base.Class x) base.Double e f is then_is same = absurd cc
  one_base ty other base.Boolean b e f is then_is same = simple base.Boolean b same (λ n e. cc)
  one_base ty other base.Byte b e f is then_is same = simple base.Byte b same (λ n e. cc)
  one_base ty other base.Char b e f is then_is same = simple base.Char b same (λ n e. cc)
  one_base ty other base.Short b e f is then_is same = simple base.Short b same (λ n e. cc)
  one_base ty other base.Int b e f is then_is same = simple base.Int b same (λ n e. cc)
  one_base ty other base.Long b e f is then_is same = simple base.Long b same (λ n e. cc)
  one_base ty other base.Float b e f is then_is same = simple base.Float b same (λ n e. cc)
  one_base ty other base.Double b e f is then_is same = simple base.Double b same (λ n e. cc)

  pub one_renamed_type : (ty other : FieldType) → IsKnownType known ty → IsKnownType known other
      → renamed_type names ty ≡ renamed_type names other → ty ≡ other
  one_renamed_type ty other is then_is same =
      let dims = ap (λ (t : FieldType). t.dims) same in
      let b = one_base ty other ty.base other.base refl refl is then_is (ap (λ (t : FieldType). t.base) same) in
      λ i. record { dims = dims i; base = b i }

  one_args : (args others : List FieldType) → AllByRecursion (IsKnownType known) args
      → AllByRecursion (IsKnownType known) others
      → map (renamed_type names) args ≡ map (renamed_type names) others → args ≡ others
  one_args [] [] is then_is same = refl
  one_args [] (u ∷ us) is then_is same = absurd cc
  one_args (t ∷ ts) [] is then_is same = absurd cc
  one_args (t ∷ ts) (u ∷ us) is then_is same =
      let first = one_renamed_type t u is.0 then_is.0 cc in
      let rest = one_args ts us is.1 then_is.1 cc in
      λ i. first i ∷ rest i

  one_ret : (ret other : Option FieldType) → IfSome ret (IsKnownType known) → IfSome other (IsKnownType known)
      → option_map (renamed_type names) ret ≡ option_map (renamed_type names) other → ret ≡ other
  one_ret None None is then_is same = refl
  one_ret None (Some u) is then_is same = absurd cc
  one_ret (Some t) None is then_is same = absurd cc
  one_ret (Some t) (Some u) is then_is same = ap Some (one_renamed_type t u is then_is cc)

  pub one_renamed_method : (ty other : MethodType) → IsKnownMethodType known ty → IsKnownMethodType known other
      → renamed_method_type names ty ≡ renamed_method_type names other → ty ≡ other
  one_renamed_method ty other is then_is same =
      let args = one_args ty.args other.args is.arguments then_is.arguments (ap (λ (t : MethodType). t.args) same) in
      let ret = one_ret ty.ret other.ret is.returned then_is.returned (ap (λ (t : MethodType). t.ret) same) in
      λ i. record { args = args i; ret = ret i }

-- ---- members

module _ (names : Names) (form : KeepsForm names) (known : List ℕ → Bool) (c : Class) (formed : IsWellFormed c)
    (told : TellsApart names known c) where
  fields_apart : (x y : Field) → IsGoodField (is_interface c.flags.0) x × IsKnownType known x.ty
      → IsGoodField (is_interface c.flags.0) y × IsKnownType known y.ty
      → (names.field x.name ≡ names.field y.name → x.name ≡ y.name)
      → (FieldsDiffer x y → FieldsDiffer (renamed_field names x) (renamed_field names y))
  fields_apart x y is then_is one differ same =
      let types = one_type (renamed_type names x.ty) (renamed_type names y.ty)
      (type_formed names form x.ty is.0.typed) (type_formed names form y.ty then_is.0.typed) same.1 in
      let ty = one_renamed_type names known told.class x.ty y.ty is.1 then_is.1 types in
      differ (one same.0, ap field_text ty)

  methods_apart : (x y : Method) → IsGoodMethod (is_interface c.flags.0) x × IsKnownMethodType known x.ty
      → IsGoodMethod (is_interface c.flags.0) y × IsKnownMethodType known y.ty
      → (method_text x.ty ≡ method_text y.ty
      → names.method x.name (method_text x.ty) ≡ names.method y.name (method_text y.ty) → x.name ≡ y.name)
      → (MethodsDiffer x y → MethodsDiffer (renamed_method names x) (renamed_method names y))
  methods_apart x y is then_is one differ same =
      let types = one_method_type (renamed_method_type names x.ty) (renamed_method_type names y.ty)
      (method_type_formed names form x.ty is.0.typed) (method_type_formed names form y.ty then_is.0.typed) same.1 in
      let ty = one_renamed_method names known told.class x.ty y.ty is.1 then_is.1 types in
      let text = ap method_text ty in
      differ (one text same.0, text)

  pub kept_apart : KeepsApart names c
  kept_apart =
      let fields = all_both (IsGoodField (is_interface c.flags.0)) (λ (f : Field). IsKnownType known f.ty) c.fields
      formed.fields told.types.fields in
      let methods =
      all_both (IsGoodMethod (is_interface c.flags.0)) (λ (m : Method). IsKnownMethodType known m.ty) c.methods
      formed.methods told.types.methods in
      record {
        fields =
            with_all (λ (x : Field). IsGoodField (is_interface c.flags.0) x × IsKnownType known x.ty)
            (λ (x y : Field). names.field x.name ≡ names.field y.name → x.name ≡ y.name)
            (λ (x y : Field). FieldsDiffer x y → FieldsDiffer (renamed_field names x) (renamed_field names y))
            fields_apart c.fields c.fields fields fields told.fields;
        methods =
            with_all (λ (x : Method). IsGoodMethod (is_interface c.flags.0) x × IsKnownMethodType known x.ty)
            (λ (x y : Method). method_text x.ty ≡ method_text y.ty
            → names.method x.name (method_text x.ty) ≡ names.method y.name (method_text y.ty) → x.name ≡ y.name)
            (λ (x y : Method). MethodsDiffer x y → MethodsDiffer (renamed_method names x) (renamed_method names y))
            methods_apart c.methods c.methods methods methods told.methods;
      }
