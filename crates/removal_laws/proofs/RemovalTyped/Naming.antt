-- What closed marks keep of the classes that a method names.
use Rattle.std.proofs.Common.{◌≡◌, ℕ, Bool, true, false, cond, List, [], ◌∷◌, ◌++◌, Option}
use Rattle.std.proofs.Common.{Some}
use Rattle.std.proofs.Common.{None, Result, Ok, Err, nat_eq, refl, sym, subst, codes}
use Rattle.std.specs.Prelude.{IfSome, ◌==◌}
use Rattle.std.specs.List.{AllByRecursion, cons_option, flat_map, starts_with}
use Rattle.std.specs.Option.{option_map, option_map_or}
use Rattle.jv_base.specs.declared.descriptors.BadDescriptor.{BadDescriptor}
use Rattle.jv_base.specs.declared.types.Base.{Base}
use Rattle.jv_base.specs.declared.types.Base.TheVariants as base
use Rattle.jv_base.specs.declared.types.FieldType.{FieldType}
use Rattle.jv_base.specs.declared.types.MethodType.{MethodType}
use Rattle.jv_base.proofs.Lists.{all_split}
use Rattle.mark_core.specs.Marks.{Closed}
use Rattle.class_model.specs.Opcodes.{array_type_of}
use Rattle.class_model.specs.declared.class.Class.{Class}
use Rattle.class_model.specs.declared.code.Handler.{Handler}
use Rattle.class_model.specs.declared.frame.FrameAt.{FrameAt}
use Rattle.class_model.specs.declared.frame.VType.{VType}
use Rattle.class_model.specs.declared.frame.VType.TheVariants as vtype
use Rattle.lib_table.specs.Lookups as table
use Rattle.class_pool.specs.Hierarchy.{IsClass, class_named}
use Rattle.class_pool.specs.declared.id.ClassId.{ClassId}
use Rattle.class_pool.specs.declared.id.ClassId.TheVariants.{Lib}
use Rattle.class_pool.proofs.Declaring.{named_there}
use Rattle.class_rename.specs.Names.{same_names}
use Rattle.member_shrink.specs.Shrunk.{is_marked, shrunk}
use Rattle.require_sys.specs.Requires.{Item, base_wants, field_text_wants, frame_wants, handler_wants}
use Rattle.require_sys.specs.Requires.{method_text_wants}
use Rattle.require_sys.specs.Requires.{method_type_wants, name_wants, requires, type_wants, verification_wants}
use Rattle.require_sys.specs.declared.kept.KeptByRules.{KeptByRules}
use Rattle.image_laws.specs.SetImage.Image.{Image}
use Rattle.image_laws.specs.ShrunkImage.Keeping.{is_class_kept}
use Rattle.image_laws.proofs.ShrunkImage.Classes.{kept_from, named_moved}
use Rattle.image_laws.specs.TakenSet.TakenSet.{IsTaken}
use Rattle.image_laws.proofs.TakenSet.Names.{library_named}
use Rattle.type_verifier.specs.Rules.{told_type}
use Rattle.removal_laws.proofs.RemovalImage.Marked.{image}
use Rattle.removal_laws.proofs.RemovalImage.Wanted.{AllIn, In, name_kept}
use Rattle.image_laws.specs.TypedImage.Named.{AreKnownNamed, IsBaseNamed, IsFrameNamed, IsHandlerNamed}
use Rattle.image_laws.specs.TypedImage.Named.{IsMethodTypeNamed, IsNamed, IsTypeNamed, IsVTypeNamed}

module _ (classes : List Class) (rules : KeptByRules) (marks : List Bool)
    (closed : Closed (requires classes rules) (is_marked marks)) (taken : IsTaken classes) where
  abbrev out : List Class
  out = shrunk classes marks

  abbrev i : Image classes out
  i = image classes rules marks closed taken

  abbrev All : List Item → Type 0
  All items = AllIn classes rules marks closed items

  abbrev Kept : ClassId → Type 0
  Kept c = is_class_kept classes marks c ≡ true

  abbrev pub Named : List ℕ → Type 0
  Named name = IsNamed same_names classes out i name

  abbrev pub BaseNamed : Base → Type 0
  BaseNamed ty = IsBaseNamed same_names classes out i ty

  abbrev pub TypeNamed : FieldType → Type 0
  TypeNamed ty = IsTypeNamed same_names classes out i ty

  abbrev pub VTypeNamed : VType → Type 0
  VTypeNamed ty = IsVTypeNamed same_names classes out i ty

  -- ---- names

  -- a name whose class is kept leads to its place
  pub named_here : (name : List ℕ) → IfSome (class_named classes name) Kept → Named name
  named_here name h = (h, named_moved classes marks name h)

  pub name_named : (name : List ℕ) → All (name_wants classes name) → Named name
  name_named name all = named_here name (by (class_named classes name) refl)
    where
      by : (o : Option ClassId) → class_named classes name ≡ o → IfSome o Kept
      by None is = tt
      by (Some c) is = name_kept classes rules marks closed name c is all

  -- what is of the library is kept
  library_kept : (name : List ℕ) → starts_with nat_eq name (codes "java/") ≡ true → Named name
  library_kept name java =
      named_here name (subst (λ o. IfSome o Kept) (sym (library_named classes taken name java))
      (by (table.class_named name) (subst (λ o. IfSome o (IsClass classes)) (library_named classes taken name java)
      (named_there classes name))))
    where
      by : (o : Option ℕ) → IfSome (option_map Lib o) (IsClass classes) → IfSome (option_map Lib o) Kept
      by None there = tt
      by (Some id) there = kept_from classes marks (Lib id) there refl

  pub known_named : AreKnownNamed same_names classes out i
  known_named = record {
    object = library_kept (codes "java/lang/Object") refl;
    throwable = library_kept (codes "java/lang/Throwable") refl;
    string = library_kept (codes "java/lang/String") refl;
  }

  -- ---- types

  pub base_named : (ty : Base) → All (base_wants classes ty) → BaseNamed ty
  base_named (base.Class name) all = name_named name all
  base_named ty all = tt

  types_named : (tys : List FieldType) → All (flat_map (type_wants classes) tys) → AllByRecursion TypeNamed tys
  types_named [] all = tt
  types_named (ty ∷ tys) all =
      let parts = all_split (In classes rules marks closed) (type_wants classes ty)
      (flat_map (type_wants classes) tys) all
      in (base_named ty.base parts.0, types_named tys parts.1)

  pub method_type_named : (ty : MethodType) → All (method_type_wants classes ty)
      → IsMethodTypeNamed same_names classes out i ty
  method_type_named ty all = let both = by ty.ret ty.args all in record { args = both.0; ret = both.1 }
    where
      by : (o : Option FieldType) (tys : List FieldType) → All (flat_map (type_wants classes) (cons_option o tys))
          → AllByRecursion TypeNamed tys × IfSome o TypeNamed
      by None tys all = (types_named tys all, tt)
      by (Some ty) tys all = let parts = types_named (ty ∷ tys) all in (parts.1, parts.0)

  pub field_text_named : (r : Result FieldType BadDescriptor) → All (field_text_wants classes r)
      → IfSome (told_type r) TypeNamed
  field_text_named (Ok ty) all = base_named ty.base all
  field_text_named (Err bad) all = tt

  pub method_text_named : (r : Result MethodType BadDescriptor) → All (method_text_wants classes r)
      → IfSome (told_type r) (IsMethodTypeNamed same_names classes out i)
  method_text_named (Ok ty) all = method_type_named ty all
  method_text_named (Err bad) all = tt

  one_of : (t : Bool) (ty : Base) (o : Option Base) → BaseNamed ty → IfSome o BaseNamed
      → IfSome (cond t (Some ty) o) BaseNamed
  one_of true ty o h k = h
  one_of false ty o h k = k

  -- the type of the elements that newarray names is no class (JVMS 6.5.newarray)
  pub array_named : (atype : ℕ) (ty : Base) → array_type_of atype ≡ Some ty → BaseNamed ty
  array_named atype ty is =
      subst (λ o. IfSome o BaseNamed) is
      (one_of (atype == 4) base.Boolean _ tt
      (one_of (atype == 5) base.Char _ tt
      (one_of (atype == 8) base.Byte _ tt
      (one_of (atype == 9) base.Short _ tt
      (one_of (atype == 10) base.Int _ tt (one_of (atype == 11) base.Long _ tt tt))))))

  -- ---- handlers and frames

  pub handlers_named : (hs : List Handler) → All (flat_map (handler_wants classes) hs)
      → AllByRecursion (IsHandlerNamed same_names classes out i) hs
  handlers_named [] all = tt
  handlers_named (h ∷ hs) all =
      let parts = all_split (In classes rules marks closed) (handler_wants classes h)
      (flat_map (handler_wants classes) hs)
      all in
      (by h.caught parts.0, handlers_named hs parts.1)
    where
      by : (o : Option (List ℕ)) → All (option_map_or (name_wants classes) o []) → IfSome o Named
      by None all = tt
      by (Some name) all = name_named name all

  vtype_named : (ty : VType) → All (verification_wants classes ty) → VTypeNamed ty
  vtype_named (vtype.Object ty) all = base_named ty.base all
  vtype_named ty all = tt

  vtypes_named : (tys more : List VType) → All (flat_map (verification_wants classes) (tys ++ more))
      → AllByRecursion VTypeNamed tys × All (flat_map (verification_wants classes) more)
  vtypes_named [] more all = (tt, all)
  vtypes_named (ty ∷ tys) more all =
      let parts = all_split (In classes rules marks closed) (verification_wants classes ty)
      (flat_map (verification_wants classes) (tys ++ more)) all in
      let rest = vtypes_named tys more parts.1 in
      ((vtype_named ty parts.0, rest.0), rest.1)

  all_vtypes_named : (tys : List VType) → All (flat_map (verification_wants classes) tys)
      → AllByRecursion VTypeNamed tys
  all_vtypes_named [] all = tt
  all_vtypes_named (ty ∷ tys) all =
      let parts = all_split (In classes rules marks closed) (verification_wants classes ty)
      (flat_map (verification_wants classes) tys) all in
      (vtype_named ty parts.0, all_vtypes_named tys parts.1)

  pub frames_named : (fs : List FrameAt) → All (flat_map (frame_wants classes) fs)
      → AllByRecursion (IsFrameNamed same_names classes out i) fs
  frames_named [] all = tt
  frames_named (f ∷ fs) all =
      let parts = all_split (In classes rules marks closed) (frame_wants classes f)
      (flat_map (frame_wants classes) fs) all
      in
      let types = vtypes_named f.frame.locals f.frame.stack parts.0 in
      (record { locals = types.0; stack = all_vtypes_named f.frame.stack types.1 }, frames_named fs parts.1)
