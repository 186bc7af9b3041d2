-- What a method names is there, and leads to its place under its new name.
use Rattle.std.proofs.Common.{◌≡◌, ℕ, true, List, [], ◌∷◌, ◌++◌, Option, Some, None, Result, Ok, Err}
use Rattle.std.proofs.Common.{refl, sym, ap, subst, ◌∙◌, codes}
use Rattle.std.specs.Prelude.{IfSome}
use Rattle.std.specs.List.{AllByRecursion, cons_option, flat_map}
use Rattle.std.specs.Option.{option_map, option_map_or}
use Rattle.jv_base.specs.declared.descriptors.BadDescriptor.{BadDescriptor}
use Rattle.jv_base.specs.declared.types.Base.{Base}
use Rattle.jv_base.specs.declared.types.Base.TheVariants as base
use Rattle.jv_base.specs.declared.types.FieldType.{FieldType}
use Rattle.jv_base.specs.declared.types.MethodType.{MethodType}
use Rattle.jv_base.proofs.Lists.{nil_parts}
use Rattle.lib_table.specs.Lookups as table
use Rattle.class_model.specs.Opcodes.{array_type_of}
use Rattle.class_model.specs.declared.class.Class.{Class}
use Rattle.class_model.specs.declared.code.Handler.{Handler}
use Rattle.class_model.specs.declared.frame.FrameAt.{FrameAt}
use Rattle.class_model.specs.declared.frame.VType.{VType}
use Rattle.class_model.specs.declared.frame.VType.TheVariants as vtype
use Rattle.class_pool.specs.Hierarchy.{class_named}
use Rattle.class_pool.specs.declared.id.ClassId.{ClassId}
use Rattle.class_pool.specs.declared.id.ClassId.TheVariants.{Lib}
use Rattle.link_check.specs.Profile.{base_kinds, class_kinds, field_text_kinds, frame_kinds, handler_kinds}
use Rattle.link_check.specs.Profile.{method_text_kinds, method_type_kinds, name_kinds, type_kinds, verification_kinds}
use Rattle.class_rename.specs.Names.{Names}
use Rattle.image_laws.specs.SetImage.Image.{Image}
use Rattle.type_verifier.specs.Rules.{told_type}
use Rattle.removal_laws.proofs.RemovalSame.Codes.{no_class_array}
use Rattle.pair_laws.specs.RenamedImage.Renaming.{KeepsNamesApart, is_library_name, placed_class}
use Rattle.pair_laws.proofs.RenamedTaken.Placed as placing
use Rattle.pair_laws.proofs.RenamedTaken.Placed.{IsPlaced, named_kept, named_new}
use Rattle.image_laws.specs.TypedImage.Named.{AreKnownNamed, IsBaseNamed, IsFrameNamed, IsHandlerNamed}
use Rattle.image_laws.specs.TypedImage.Named.{IsMethodTypeNamed, IsNamed, IsTypeNamed, IsVTypeNamed, KeepsKnownNames}

-- names of the library stay
pub known_stay : (names : Names) (classes : List Class) → KeepsNamesApart names classes → KeepsKnownNames names
known_stay names classes apart = record {
  object = apart.library_class (codes "java/lang/Object") refl;
  cloneable = apart.library_class (codes "java/lang/Cloneable") refl;
  serializable = apart.library_class (codes "java/io/Serializable") refl;
  throwable = apart.library_class (codes "java/lang/Throwable") refl;
  string = apart.library_class (codes "java/lang/String") refl;
}

module _ (names : Names) (place back : ℕ → ℕ) (classes out : List Class)
    (h : IsPlaced names place back classes out) where
  abbrev pub i : Image classes out
  i = placing.i names place back classes out h

  abbrev pub Named : List ℕ → Type 0
  Named name = IsNamed names classes out i name

  abbrev pub BaseNamed : Base → Type 0
  BaseNamed ty = IsBaseNamed names classes out i ty

  abbrev pub TypeNamed : FieldType → Type 0
  TypeNamed ty = IsTypeNamed names classes out i ty

  abbrev pub VTypeNamed : VType → Type 0
  VTypeNamed ty = IsVTypeNamed names classes out i ty

  -- ---- names

  -- a class that is named is there, and found under its new name
  pub class_of_name : (name : List ℕ) (c : ClassId) → class_named classes name ≡ Some c → Named name
  class_of_name name c e = (
    subst (λ o. IfSome o (λ d. i.kept d ≡ true)) (sym e) (named_kept names place back classes out h name c e),
    named_new names place back classes out h name c e ∙ sym (ap (option_map (placed_class place)) e),
  )

  -- what is of the library stays
  library_named : (name : List ℕ) → is_library_name name ≡ true → Named name
  library_named name java = (
    there (class_named classes name) refl,
    ap (class_named out) (h.apart.library_class name java) ∙ h.found_new.library name java
        ∙ stays (table.class_named name) ∙ ap (option_map (placed_class place)) (sym (h.found.library name java)),
  )
    where
      stays : (o : Option ℕ) → option_map Lib o ≡ option_map (placed_class place) (option_map Lib o)
      stays None = refl
      stays (Some id) = refl

      there : (o : Option ClassId) → class_named classes name ≡ o → IfSome o (λ d. i.kept d ≡ true)
      there None e = tt
      there (Some c) e = named_kept names place back classes out h name c e

  pub known_named : AreKnownNamed names classes out i
  known_named = record {
    object = library_named (codes "java/lang/Object") refl;
    throwable = library_named (codes "java/lang/Throwable") refl;
    string = library_named (codes "java/lang/String") refl;
  }

  -- the type of the elements that newarray names is no class (JVMS 6.5.newarray)
  pub array_named : (atype : ℕ) (ty : Base) → array_type_of atype ≡ Some ty → BaseNamed ty
  array_named atype (base.Class name) is = absurd (no_class_array atype name is)
  array_named atype ty is = tt

  -- ---- what rules for links were asked of

  module _ (n : ℕ) where
    pub of_name : (name : List ℕ) → name_kinds classes n name ≡ [] → Named name
    of_name name none = by (class_named classes name) refl none
      where
        by : (o : Option ClassId) → class_named classes name ≡ o → class_kinds classes n o ≡ [] → Named name
        by (Some c) e none = class_of_name name c e
        by None e none = absurd cc

    pub of_base : (ty : Base) → base_kinds classes n ty ≡ [] → BaseNamed ty
    of_base (base.Class name) none = of_name name none
    of_base ty none = tt

    types_named : (tys : List FieldType) → flat_map (type_kinds classes n) tys ≡ [] → AllByRecursion TypeNamed tys
    types_named [] none = tt
    types_named (ty ∷ tys) none =
        let parts = nil_parts (type_kinds classes n ty) (flat_map (type_kinds classes n) tys) none in
        (of_base ty.base parts.0, types_named tys parts.1)

    pub method_type_named : (ty : MethodType) → method_type_kinds classes n ty ≡ []
        → IsMethodTypeNamed names classes out i ty
    method_type_named ty none = let both = by ty.ret ty.args none in record { args = both.0; ret = both.1 }
      where
        by : (o : Option FieldType) (tys : List FieldType) → flat_map (type_kinds classes n) (cons_option o tys) ≡ []
            → AllByRecursion TypeNamed tys × IfSome o TypeNamed
        by None tys none = (types_named tys none, tt)
        by (Some ty) tys none = let parts = types_named (ty ∷ tys) none in (parts.1, parts.0)

    pub field_text_named : (r : Result FieldType BadDescriptor) → field_text_kinds classes n r ≡ []
        → IfSome (told_type r) TypeNamed
    field_text_named (Ok ty) none = of_base ty.base none
    field_text_named (Err bad) none = tt

    pub method_text_named : (r : Result MethodType BadDescriptor) → method_text_kinds classes n r ≡ []
        → IfSome (told_type r) (IsMethodTypeNamed names classes out i)
    method_text_named (Ok ty) none = method_type_named ty none
    method_text_named (Err bad) none = tt

    -- ---- handlers and frames

    pub handlers_named : (hs : List Handler) → flat_map (handler_kinds classes n) hs ≡ []
        → AllByRecursion (IsHandlerNamed names classes out i) hs
    handlers_named [] none = tt
    handlers_named (h ∷ hs) none =
        let parts = nil_parts (handler_kinds classes n h) (flat_map (handler_kinds classes n) hs) none in
        (by h.caught parts.0, handlers_named hs parts.1)
      where
        by : (o : Option (List ℕ)) → option_map_or (name_kinds classes n) o [] ≡ [] → IfSome o Named
        by None none = tt
        by (Some name) none = of_name name none

    vtype_named : (ty : VType) → verification_kinds classes n ty ≡ [] → VTypeNamed ty
    vtype_named (vtype.Object ty) none = of_base ty.base none
    vtype_named ty none = tt

    vtypes_named : (tys more : List VType) → flat_map (verification_kinds classes n) (tys ++ more) ≡ []
        → AllByRecursion VTypeNamed tys × (flat_map (verification_kinds classes n) more ≡ [])
    vtypes_named [] more none = (tt, none)
    vtypes_named (ty ∷ tys) more none =
        let parts = nil_parts (verification_kinds classes n ty)
        (flat_map (verification_kinds classes n) (tys ++ more)) none in
        let rest = vtypes_named tys more parts.1 in
        ((vtype_named ty parts.0, rest.0), rest.1)

    all_vtypes_named : (tys : List VType) → flat_map (verification_kinds classes n) tys ≡ []
        → AllByRecursion VTypeNamed tys
    all_vtypes_named [] none = tt
    all_vtypes_named (ty ∷ tys) none =
        let parts = nil_parts (verification_kinds classes n ty) (flat_map (verification_kinds classes n) tys) none in
        (vtype_named ty parts.0, all_vtypes_named tys parts.1)

    pub frames_named : (fs : List FrameAt) → flat_map (frame_kinds classes n) fs ≡ []
        → AllByRecursion (IsFrameNamed names classes out i) fs
    frames_named [] none = tt
    frames_named (f ∷ fs) none =
        let parts = nil_parts (frame_kinds classes n f) (flat_map (frame_kinds classes n) fs) none in
        let types = vtypes_named f.frame.locals f.frame.stack parts.0 in
        (record { locals = types.0; stack = all_vtypes_named f.frame.stack types.1 }, frames_named fs parts.1)
