-- A set without optional attributes is an image of the set, in which each class and each member stands where it stood;
-- so each method is typed in it as it was.
use Rattle.std.proofs.Common.{◌≡◌, ℕ, not, ◌&&◌, Bool, true, false, cond, is_some, List, [], ◌∷◌, map, Option, Some}
use Rattle.std.proofs.Common.{None}
use Rattle.std.proofs.Common.{Result, Ok, Err, slice_get, refl, sym, ap, subst, ◌∙◌, codes}
use Rattle.std.specs.Prelude.{IfSome}
use Rattle.std.specs.List.{AllByRecursion}
use Rattle.std.specs.Option.{option_and_then, option_map}
use Rattle.jv_base.specs.Descriptors.{read_field, read_method}
use Rattle.jv_base.specs.declared.types.Base.{Base}
use Rattle.jv_base.specs.declared.types.Base.TheVariants as base
use Rattle.jv_base.specs.declared.types.FieldType.{FieldType}
use Rattle.jv_base.specs.declared.types.MethodType.{MethodType}
use Rattle.jv_base.proofs.Lists.{mapped_from}
use Rattle.class_model.specs.Flags.{acc_protected, acc_static, is_init}
use Rattle.class_model.specs.declared.class.Class.{Class}
use Rattle.class_model.specs.declared.class.Method.{Method}
use Rattle.class_model.specs.declared.code.Code.{Code}
use Rattle.class_model.specs.declared.code.Handler.{Handler}
use Rattle.class_model.specs.declared.code.Ins.{Ins}
use Rattle.class_model.specs.declared.frame.FrameAt.{FrameAt}
use Rattle.class_model.specs.declared.frame.VType.{VType}
use Rattle.class_model.specs.declared.frame.VType.TheVariants as vtype
use Rattle.class_model.specs.declared.op.MemberRef.{MemberRef}
use Rattle.class_model.specs.declared.op.Op.{Op}
use Rattle.class_model.specs.declared.op.Op.TheVariants as op
use Rattle.class_pool.specs.Found.{NameAndType, declared_in}
use Rattle.class_pool.specs.Hierarchy.{class_named, interfaces, superclass}
use Rattle.class_pool.specs.declared.id.ClassId.{ClassId}
use Rattle.class_pool.specs.declared.id.ClassId.TheVariants.{Prog}
use Rattle.class_pool.specs.declared.id.MemberAt.{MemberAt}
use Rattle.link_check.specs.Links.{callable}
use Rattle.link_check.specs.declared.fault.LinkKind.{LinkKind}
use Rattle.class_rename.specs.Names.{same_names}
use Rattle.image_laws.specs.SetImage.Image.{Image, if_kept}
use Rattle.shape_laws.specs.KeepsMembers.{KeepsMembers}
use Rattle.shape_laws.proofs.Alike as alike
use Rattle.attribute_filter.specs.Filtered.{code_kept, filtered, method_filtered, without_lines}
use Rattle.attribute_filter.specs.declared.filter.AttributeFilter.{AttributeFilter}
use Rattle.type_verifier.specs.Environment.{Environment}
use Rattle.type_verifier.specs.Members.{is_class_type, is_early_field, is_guarded, is_guarded_field, is_guarded_method}
use Rattle.type_verifier.specs.Rules.{told_type}
use Rattle.type_verifier.specs.Verified.{AreTyped, IsTypedMethod, environment}
use Rattle.image_laws.specs.TypedImage.Named.{IsBaseNamed, IsCodeNamed, IsCodeRenamed, IsFieldNamed, IsFrameNamed}
use Rattle.image_laws.specs.TypedImage.Named.{IsHandlerNamed, IsMethodNamed, IsMethodTypeNamed, IsNamed, IsOpNamed}
use Rattle.image_laws.specs.TypedImage.Named.{IsTypeNamed, IsVTypeNamed}
use Rattle.image_laws.proofs.TypedImage.Staying.{field_ref_stays, itself, known_stay, lines_stay, method_ref_stays}
use Rattle.image_laws.proofs.TypedImage.Staying.{method_told_stays, method_type_stays, told_stays}
use Rattle.image_laws.proofs.TypedImage.Walking.{is_typed}
use Rattle.removal_laws.proofs.FilteredSet.Keeping.{filtered_keeps}
use Rattle.removal_laws.proofs.FilteredSet.Keeping as keeping

-- ---- all is kept

some : {A : Type 0} (o : Option A) → IfSome o (λ x. true ≡ true)
some None = tt
some (Some x) = refl

all : {A : Type 0} (xs : List A) → AllByRecursion (λ x. true ≡ true) xs
all [] = tt
all (x ∷ xs) = (refl, all xs)

pub each : {A : Type 0} (P : A → Type 0) → ((x : A) → P x) → (xs : List A) → AllByRecursion P xs
each P h [] = tt
each P h (x ∷ xs) = (h x, each P h xs)

pub if_some : {A : Type 0} (P : A → Type 0) → ((x : A) → P x) → (o : Option A) → IfSome o P
if_some P h None = tt
if_some P h (Some x) = h x

stays : {A : Type 0} (o : Option A) → o ≡ option_map (λ x. x) o
stays None = refl
stays (Some x) = refl

all_stay : {A : Type 0} (xs : List A) → xs ≡ map (λ x. x) xs
all_stay [] = refl
all_stay {A} (x ∷ xs) = ap (λ (t : List A). x ∷ t) (all_stay xs)

kept : (o : Option MemberAt) → o ≡ option_and_then (if_kept (λ m. true) (λ m. m)) o
kept None = refl
kept (Some m) = refl

module _ (filter_by : AttributeFilter) (a : List Class) where
  abbrev filters : Class → Class
  filters = filtered filter_by

  abbrev keeps : KeepsMembers filters
  keeps = filtered_keeps filter_by

  abbrev b : List Class
  b = map filters a

  declared : (n o : NameAndType) → Some n ≡ Some o → (x : ClassId)
      → declared_in b o x ≡ option_and_then (if_kept (λ m. true) (λ m. m)) (declared_in a n x)
  declared n o e x =
      let same : n ≡ o = cc in
      subst (λ (z : NameAndType). declared_in b z x
      ≡ option_and_then (if_kept (λ m. true) (λ m. m)) (declared_in a n x)) same
      ((λ i. alike.declared_in_is filters keeps a i n x) ∙ kept (declared_in a n x))

  abbrev image : Image a b
  image = record {
    kept = λ x. true;
    moved = λ x. x;
    kept_member = λ m. true;
    moved_member = λ m. m;
    renamed = λ n. Some n;
    same_moved = λ x y k h. refl;
    super_kept = λ x k. some (superclass a x);
    super_moved = λ x k. (λ i. alike.superclass_is filters keeps a i x) ∙ stays (superclass a x);
    interfaces_kept = λ x k. all (interfaces a x);
    interfaces_moved = λ x k. (λ i. alike.interfaces_is filters keeps a i x) ∙ all_stay (interfaces a x);
    interface_moved = λ x k i. alike.is_interface_in_is filters keeps a i x;
    public_moved = λ x k. alike.is_public_at filters keeps a x;
    package_moved = λ x y k h i. alike.same_package_is filters keeps a i x y;
    object_kept = some (class_named a (codes "java/lang/Object"));
    object_moved = (λ i. alike.class_named_is filters keeps a i (codes "java/lang/Object"))
        ∙ stays (class_named a (codes "java/lang/Object"));
    class_kept = λ m k. refl;
    class_moved = λ m. refl;
    same_member_moved = λ m n k h. refl;
    declared_moved = λ n o e x k. declared n o e x;
    flag_moved = λ g m k i. alike.has_flag_is filters keeps a i g m;
    instance_moved = λ m k i. alike.is_instance_method_is filters keeps a i m;
    name_moved = λ m k. sym (λ i. Some (alike.named_at_is filters keeps a i m));
    init_moved = λ m k i. is_init (alike.named_at_is filters keeps a i m).0;
  }

  -- ---- names

  named : (name : List ℕ) → IsNamed same_names a b image name
  named name = (
    some (class_named a name),
    (λ i. alike.class_named_is filters keeps a i name) ∙ stays (class_named a name),
  )

  base_named : (ty : Base) → IsBaseNamed same_names a b image ty
  base_named (base.Class name) = named name
  base_named ty = tt

  type_named : (ty : FieldType) → IsTypeNamed same_names a b image ty
  type_named ty = base_named ty.base

  method_type_named : (ty : MethodType) → IsMethodTypeNamed same_names a b image ty
  method_type_named ty = record {
    args = each (IsTypeNamed same_names a b image) type_named ty.args;
    ret = if_some (IsTypeNamed same_names a b image) type_named ty.ret;
  }

  vtype_named : (ty : VType) → IsVTypeNamed same_names a b image ty
  vtype_named (vtype.Object ty) = type_named ty
  vtype_named ty = tt

  handler_named : (h : Handler) → IsHandlerNamed same_names a b image h
  handler_named h = if_some (IsNamed same_names a b image) named h.caught

  frame_named : (f : FrameAt) → IsFrameNamed same_names a b image f
  frame_named f = record {
    locals = each (IsVTypeNamed same_names a b image) vtype_named f.frame.locals;
    stack = each (IsVTypeNamed same_names a b image) vtype_named f.frame.stack;
  }

  callable_at : (from : ClassId) (r : Result MemberAt LinkKind) → callable b from r ≡ callable a from r
  callable_at from (Ok m) = refl
  callable_at from (Err kind) = refl

  -- ---- a method

  module _ (n : ℕ) (c : Class) (k : ℕ) (m : Method) (code left : Code)
      (same : IsCodeRenamed same_names code left) where
    abbrev whole : Environment
    whole = environment a n c k m code

    abbrev rest : Environment
    rest = environment b n (filtered filter_by c) k (method_filtered filter_by m) left

    guarded_at : (r : Result MemberAt LinkKind) → is_guarded rest r ≡ is_guarded whole r
    guarded_at (Ok m) = λ i. alike.has_flag_is filters keeps a i acc_protected m
        && not (alike.has_flag_is filters keeps a i acc_static m)
        && not (alike.same_package_is filters keeps a i (Prog n) m.class)
    guarded_at (Err kind) = refl

    field_named : (r : MemberRef) → IsFieldNamed same_names whole rest image r
    field_named r = record {
      class = type_named r.class;
      type = if_some (IsTypeNamed same_names a b image) type_named (told_type (read_field r.ty));
      told = ap (λ (s : MemberRef). told_type (read_field s.ty)) (field_ref_stays r)
          ∙ told_stays (told_type (read_field r.ty));
      guarded = ap (is_guarded_field rest) (field_ref_stays r)
          ∙ (λ i. guarded_at (callable_at (Prog n) (keeping.linked_field_is filter_by a i (Prog n) r) i) i);
      early = ap (is_early_field rest) (field_ref_stays r)
          ∙ (λ i. is_init m.name && is_class_type c.name r.class
          && is_some (alike.declared_at_at filters keeps a (Prog n) r.name r.ty i));
    }

    method_named : (r : MemberRef) → IsMethodNamed same_names whole rest image r
    method_named r = record {
      class = type_named r.class;
      type = if_some (IsMethodTypeNamed same_names a b image) method_type_named (told_type (read_method r.ty));
      told = ap (λ (s : MemberRef). told_type (read_method s.ty)) (method_ref_stays r)
          ∙ method_told_stays (told_type (read_method r.ty));
      guarded = ap (is_guarded_method rest) (method_ref_stays r)
          ∙ (λ i. guarded_at (callable_at (Prog n) (keeping.linked_method_is filter_by a i (Prog n) r) i) i);
      constructor = refl;
    }

    op_named : (o : Op) → IsOpNamed same_names whole rest image o
    op_named (op.GetStatic r) = field_named r
    op_named (op.PutStatic r) = field_named r
    op_named (op.GetField r) = field_named r
    op_named (op.PutField r) = field_named r
    op_named (op.InvokeVirtual r) = method_named r
    op_named (op.InvokeSpecial r) = method_named r
    op_named (op.InvokeStatic r) = method_named r
    op_named (op.InvokeInterface r) = method_named r
    op_named (op.New name) = named name
    op_named (op.NewArray ty) = base_named ty
    op_named (op.ANewArray ty) = type_named ty
    op_named (op.CheckCast ty) = type_named ty
    op_named (op.InstanceOf ty) = type_named ty
    op_named (op.MultiNewArray ty dimensions) = type_named ty
    op_named o = tt

    code_named : IsCodeNamed same_names whole rest image
    code_named = record {
      own = refl;
      super = refl;
      flags = refl;
      constructor = refl;
      type = sym (method_type_stays m.ty);
      code = same;
      known = record {
        object = named (codes "java/lang/Object");
        throwable = named (codes "java/lang/Throwable");
        string = named (codes "java/lang/String");
      };
      own_named = named c.name;
      type_named = method_type_named m.ty;
      instructions = each (λ (j : Ins). IsOpNamed same_names whole rest image j.op) (λ j. op_named j.op) code.ins;
      handlers = each (IsHandlerNamed same_names a b image) handler_named code.handlers;
      frames = each (IsFrameNamed same_names a b image) frame_named code.frames;
    }

  -- a code that is left is the code, maybe without lines
  code_left : (o : Option Code) (left : Code) → code_kept filter_by o ≡ Some left
      → (code : Code) × (o ≡ Some code) × IsCodeRenamed same_names code left
  code_left o left = by filter_by.line_numbers o
    where
      by : (t : Bool) (o : Option Code) → cond t o (option_map without_lines o) ≡ Some left
          → (code : Code) × (o ≡ Some code) × IsCodeRenamed same_names code left
      by true o e = (left, e, itself left)
      by false None e = absurd cc
      by false (Some code) e =
          let same : without_lines code ≡ left = cc in (
            code,
            refl,
            subst (IsCodeRenamed same_names code) same
                (lines_stay code (without_lines code) (λ j. None) refl refl refl refl refl),
          )

  method_typed : (n : ℕ) (c : Class) (k : ℕ) (m : Method) → IsTypedMethod a n c k m
      → IsTypedMethod b n (filtered filter_by c) k (method_filtered filter_by m)
  method_typed n c k m typed left is =
      let found = code_left m.code left is in
      is_typed same_names (whole n c k m found.0 left found.2) (rest n c k m found.0 left found.2) image known_stay
      (code_named n c k m found.0 left found.2) (typed found.0 found.1)

  pub all_typed : AreTyped a → AreTyped b
  all_typed typed n k d at m there =
      let g = mapped_from (filtered filter_by) a n d at in
      let h = mapped_from (method_filtered filter_by) g.0.methods k m
      (ap (λ (x : Class). slice_get x.methods k) (sym g.2) ∙ there) in
      subst (λ (x : Class). IsTypedMethod b n x k m) (sym g.2)
      (subst (IsTypedMethod b n (filtered filter_by g.0) k) (sym h.2)
      (method_typed n g.0 k h.0 (typed n k g.0 g.1 h.0 h.1)))
