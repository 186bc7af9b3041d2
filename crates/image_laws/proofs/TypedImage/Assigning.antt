-- Types under new names: one that is assignable to another one is so in the image.
use Rattle.std.proofs.Common.{◌≡◌, ℕ, not, ◌&&◌, ◌||◌, Bool, true, false, cond, List, [], ◌∷◌, map, Option, Some, None}
use Rattle.std.proofs.Common.{refl, sym, ap, subst, ◌∙◌}
use Rattle.std.specs.Prelude.{◌==◌, nat_lt, IfSome, codes}
use Rattle.std.specs.Cmp.Lexicographic.{pointwise, same_text}
use Rattle.std.specs.List.{AllByRecursion}
use Rattle.std.specs.Option.{option_map}
use Rattle.std.proofs.lemmas.Bool.{and_from}
use Rattle.jv_base.specs.Names.{is_text}
use Rattle.jv_base.specs.declared.types.Base.{Base}
use Rattle.jv_base.specs.declared.types.Base.TheVariants as base
use Rattle.jv_base.specs.declared.types.FieldType.{FieldType}
use Rattle.jv_base.proofs.Equality.{text_itself}
use Rattle.class_model.specs.Frames.{words_of_type}
use Rattle.class_model.specs.declared.class.Class.{Class}
use Rattle.class_model.specs.declared.frame.VType.{VType}
use Rattle.class_model.specs.declared.frame.VType.TheVariants as vtype
use Rattle.class_pool.specs.Hierarchy.{class_named}
use Rattle.class_pool.specs.Resolution.{is_class_below, is_interface_in}
use Rattle.class_pool.specs.declared.id.ClassId.{ClassId}
use Rattle.class_rename.specs.Names.{Names}
use Rattle.class_rename.specs.Renamed.{renamed_base, renamed_type, renamed_vtype}
use Rattle.image_laws.specs.SetImage.Image.{Image}
use Rattle.image_laws.proofs.SetImage.Access.{class_below_moved}
use Rattle.type_verifier.specs.Assignable.{is_above_arrays, is_assignable, is_base_assignable, is_class_assignable}
use Rattle.type_verifier.specs.Assignable.{is_frame_assignable, is_item_assignable, is_java_assignable, reaches}
use Rattle.type_verifier.specs.declared.frame.TypeFrame.{TypeFrame}
use Rattle.image_laws.specs.TypedImage.Named.{IsBaseNamed, IsNamed, IsTypeNamed, IsVTypeNamed, KeepsKnownNames}

-- ---- tests

pub both : (s t : Bool) → (s && t) ≡ true → (s ≡ true) × (t ≡ true)
both true t h = (refl, h)
both false t h = absurd cc

-- one of two tests passes where it did
pub either : (s t u v : Bool) → (s ≡ true → u ≡ true) → (t ≡ true → v ≡ true) → (s || t) ≡ true → (u || v) ≡ true
either true t true v f g h = refl
either true t false v f g h = absurd (let e = f refl in cc)
either false t true v f g h = refl
either false t false v f g h = g h

-- the same texts are the same under new names
pub text_kept : (f : List ℕ → List ℕ) (x y : List ℕ) → is_text x y ≡ true → is_text (f x) (f y) ≡ true
text_kept f x y h = subst (λ (z : List ℕ). is_text (f x) (f z) ≡ true) (same_text x y (sym h)) (text_itself (f x))

module _ (names : Names) (a b : List Class) (i : Image a b) (stay : KeepsKnownNames names) where
  abbrev Named : List ℕ → Type 0
  Named name = IsNamed names a b i name

  -- ---- classes

  abbrev Kept : ClassId → Type 0
  Kept c = i.kept c ≡ true

  interface_or : (x y : ClassId) → Kept x → Kept y
      → (is_interface_in b (i.moved y) || is_class_below b (i.moved x) (i.moved y))
      ≡ (is_interface_in a y || is_class_below a x y)
  interface_or x y k h =
      ap (λ (t : Bool). t || is_class_below b (i.moved x) (i.moved y)) (i.interface_moved y h)
      ∙ ap (λ (t : Bool). is_interface_in a y || t) (class_below_moved a b i x y k h)

  reaches_moved : (from to : Option ClassId) → IfSome from Kept → IfSome to Kept
      → reaches b (option_map i.moved from) (option_map i.moved to) ≡ reaches a from to
  reaches_moved from None k h = refl
  reaches_moved None (Some y) k h = i.interface_moved y h
  reaches_moved (Some x) (Some y) k h = interface_or x y k h

  pub class_assignable : (x y : List ℕ) → Named x → Named y → is_class_assignable a x y ≡ true
      → is_class_assignable b (names.class x) (names.class y) ≡ true
  class_assignable x y k h =
      either (is_text x y) (reaches a (class_named a x) (class_named a y)) (is_text (names.class x) (names.class y))
      (reaches b (class_named b (names.class x)) (class_named b (names.class y))) (text_kept names.class x y)
      (λ e. same ∙ e)
    where
      same : reaches b (class_named b (names.class x)) (class_named b (names.class y))
          ≡ reaches a (class_named a x) (class_named a y)
      same =
          ap (λ o. reaches b o (class_named b (names.class y))) k.1
          ∙ ap (reaches b (option_map i.moved (class_named a x))) h.1
          ∙ reaches_moved (class_named a x) (class_named a y) k.0 h.0

  -- ---- types

  abbrev BaseNamed : Base → Type 0
  BaseNamed ty = IsBaseNamed names a b i ty

  base_assignable : (x y : Base) → BaseNamed x → BaseNamed y → is_base_assignable a x y ≡ true
      → is_base_assignable b (renamed_base names x) (renamed_base names y) ≡ true
  base_assignable (base.Class x) (base.Class y) k h e = class_assignable x y k h e
  base_assignable base.Boolean base.Boolean k h e = refl
  base_assignable base.Byte base.Byte k h e = refl
  base_assignable base.Char base.Char k h e = refl
  base_assignable base.Short base.Short k h e = refl
  base_assignable base.Int base.Int k h e = refl
  base_assignable base.Long base.Long k h e = refl
  base_assignable base.Float base.Float k h e = refl
  base_assignable base.Double base.Double k h e = refl
  base_assignable x y k h e = absurd cc

  -- what stands above each array type keeps its name
  known : (x y : List ℕ) → names.class y ≡ y → is_text x y ≡ true → is_text (names.class x) y ≡ true
  known x y same h = subst (λ (z : List ℕ). is_text (names.class x) z ≡ true) same (text_kept names.class x y h)

  above_arrays : (ty : Base) → is_above_arrays ty ≡ true → is_above_arrays (renamed_base names ty) ≡ true
  above_arrays (base.Class name) h =
      either (is_text name (codes "java/lang/Object") || is_text name (codes "java/lang/Cloneable"))
      (is_text name (codes "java/io/Serializable"))
      (is_text (names.class name) (codes "java/lang/Object")
      || is_text (names.class name) (codes "java/lang/Cloneable"))
      (is_text (names.class name) (codes "java/io/Serializable"))
      (either (is_text name (codes "java/lang/Object")) (is_text name (codes "java/lang/Cloneable"))
      (is_text (names.class name) (codes "java/lang/Object"))
      (is_text (names.class name) (codes "java/lang/Cloneable"))
      (known name (codes "java/lang/Object") stay.object)
      (known name (codes "java/lang/Cloneable") stay.cloneable))
      (known name (codes "java/io/Serializable") stay.serializable)
      h
  above_arrays ty h = absurd cc

  pub java_assignable : (x y : FieldType) → IsTypeNamed names a b i x → IsTypeNamed names a b i y
      → is_java_assignable a x y ≡ true → is_java_assignable b (renamed_type names x) (renamed_type names y) ≡ true
  unfolding is_java_assignable
  java_assignable x y k h = by (x.dims == y.dims)
    where
      by : (t : Bool)
          → cond t (is_base_assignable a x.base y.base) (nat_lt y.dims x.dims && is_above_arrays y.base) ≡ true
          → cond t (is_base_assignable b (renamed_base names x.base) (renamed_base names y.base))
          (nat_lt y.dims x.dims && is_above_arrays (renamed_base names y.base)) ≡ true
      by true e = base_assignable x.base y.base k h e
      by false e =
          let parts = both (nat_lt y.dims x.dims) (is_above_arrays y.base) e in
          and_from (nat_lt y.dims x.dims) (is_above_arrays (renamed_base names y.base)) parts.0
          (above_arrays y.base parts.1)

  -- ---- verification types

  abbrev pub VTypeNamed : VType → Type 0
  VTypeNamed ty = IsVTypeNamed names a b i ty

  pub assignable : (x y : VType) → VTypeNamed x → VTypeNamed y → is_assignable a x y ≡ true
      → is_assignable b (renamed_vtype names x) (renamed_vtype names y) ≡ true
  unfolding is_assignable
  assignable x vtype.Top k h e = refl
  assignable vtype.Int vtype.Int k h e = refl
  assignable vtype.Long vtype.Long k h e = refl
  assignable vtype.Null vtype.Null k h e = refl
  assignable vtype.Null (vtype.Object to) k h e = refl
  assignable vtype.UninitThis vtype.UninitThis k h e = refl
  assignable (vtype.Object x) (vtype.Object y) k h e = java_assignable x y k h e
  assignable (vtype.Uninit m) (vtype.Uninit n) k h e = e
  assignable x y k h e = absurd cc

  pub words_same : (ty : VType) → words_of_type (renamed_vtype names ty) ≡ words_of_type ty
  words_same vtype.Long = refl
  words_same vtype.Top = refl
  words_same vtype.Int = refl
  words_same vtype.Null = refl
  words_same vtype.UninitThis = refl
  words_same (vtype.Object ty) = refl
  words_same (vtype.Uninit at) = refl

  item_assignable : (x y : VType) → VTypeNamed x → VTypeNamed y → is_item_assignable a x y ≡ true
      → is_item_assignable b (renamed_vtype names x) (renamed_vtype names y) ≡ true
  item_assignable x y k h e =
      let parts = both (words_of_type x == words_of_type y) (is_assignable a x y) e in
      and_from (words_of_type (renamed_vtype names x) == words_of_type (renamed_vtype names y))
      (is_assignable b (renamed_vtype names x) (renamed_vtype names y))
      (ap (λ (n : ℕ). n == words_of_type (renamed_vtype names y)) (words_same x)
      ∙ ap (λ (n : ℕ). words_of_type x == n) (words_same y) ∙ parts.0)
      (assignable x y k h parts.1)

  -- ---- frames

  abbrev pub AllNamed : List VType → Type 0
  AllNamed tys = AllByRecursion VTypeNamed tys

  abbrev pub all_renamed : List VType → List VType
  all_renamed tys = map (renamed_vtype names) tys

  pointwise_kept : (test over : VType → VType → Bool)
      → ((x y : VType) → VTypeNamed x → VTypeNamed y → test x y ≡ true
      → over (renamed_vtype names x) (renamed_vtype names y) ≡ true)
      → (xs ys : List VType) → AllNamed xs → AllNamed ys → pointwise test xs ys ≡ true
      → pointwise over (all_renamed xs) (all_renamed ys) ≡ true
  pointwise_kept test over each [] [] k h e = refl
  pointwise_kept test over each [] (y ∷ ys) k h e = absurd cc
  pointwise_kept test over each (x ∷ xs) [] k h e = absurd cc
  pointwise_kept test over each (x ∷ xs) (y ∷ ys) k h e =
      let parts = both (test x y) (pointwise test xs ys) e in
      and_from (over (renamed_vtype names x) (renamed_vtype names y)) (pointwise over (all_renamed xs) (all_renamed ys))
      (each x y k.0 h.0 parts.0) (pointwise_kept test over each xs ys k.1 h.1 parts.1)

  abbrev pub renamed_types_frame : TypeFrame → TypeFrame
  renamed_types_frame f =
      record { locals = all_renamed f.locals; stack = all_renamed f.stack; marked = f.marked }

  -- a frame whose types are named
  abbrev pub FrameNamed : TypeFrame → Type 0
  FrameNamed f = AllNamed f.locals × AllNamed f.stack

  pub frame_assignable : (f g : TypeFrame) → FrameNamed f → FrameNamed g → is_frame_assignable a f g ≡ true
      → is_frame_assignable b (renamed_types_frame f) (renamed_types_frame g) ≡ true
  frame_assignable f g k h e =
      let one = both (pointwise (is_assignable a) f.locals g.locals && pointwise (is_item_assignable a) f.stack g.stack)
      (not f.marked || g.marked) e in
      let two = both (pointwise (is_assignable a) f.locals g.locals)
      (pointwise (is_item_assignable a) f.stack g.stack) one.0 in
      and_from (pointwise (is_assignable b) (all_renamed f.locals) (all_renamed g.locals)
      && pointwise (is_item_assignable b) (all_renamed f.stack) (all_renamed g.stack)) (not f.marked || g.marked)
      (and_from (pointwise (is_assignable b) (all_renamed f.locals) (all_renamed g.locals))
      (pointwise (is_item_assignable b) (all_renamed f.stack) (all_renamed g.stack))
      (pointwise_kept (is_assignable a) (is_assignable b) assignable f.locals g.locals k.0 h.0 two.0)
      (pointwise_kept (is_item_assignable a) (is_item_assignable b) item_assignable f.stack g.stack k.1 h.1 two.1))
      one.1
