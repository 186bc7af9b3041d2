-- The rules look at what the references of a kept method lead to as they did.
use Rattle.std.proofs.Common.{◌≡◌, ◌<◌, ℕ, zero, suc, not, ◌&&◌, Bool, true, false, cond, List, [], ◌∷◌, ◌++◌, Option}
use Rattle.std.proofs.Common.{Some, None}
use Rattle.std.proofs.Common.{Result, Ok, Err, slice_get, refl, sym, ap, subst, ◌∙◌, arith, codes}
use Rattle.std.specs.Prelude.{IfSome, ◌==◌}
use Rattle.std.specs.Cmp.Lexicographic.{same_text}
use Rattle.std.specs.List.{cons_option, flat_map}
use Rattle.std.specs.Option.{option_map_or}
use Rattle.jv_base.specs.Descriptors.{read_field, read_method}
use Rattle.jv_base.specs.Names.{is_text}
use Rattle.jv_base.specs.declared.types.Base.{Base}
use Rattle.jv_base.specs.declared.types.Base.TheVariants as base
use Rattle.jv_base.proofs.Lists.{all_split, nil_parts}
use Rattle.mark_core.specs.Marks.{Closed}
use Rattle.class_model.specs.WellFormed.{IsGoodOp}
use Rattle.class_model.specs.declared.class.Class.{Class}
use Rattle.class_model.specs.declared.class.Method.{Method}
use Rattle.class_model.specs.declared.code.Code.{Code}
use Rattle.class_model.specs.declared.op.MemberRef.{MemberRef}
use Rattle.class_model.specs.declared.op.Op.{Op}
use Rattle.class_model.specs.declared.op.Op.TheVariants as op
use Rattle.class_pool.specs.Found.{NameAndType, declared_by, declared_in, role_at}
use Rattle.class_pool.specs.Hierarchy.{class_named, superclass}
use Rattle.class_pool.specs.Resolution.{field_found, first}
use Rattle.class_pool.specs.Walk.{highest, own_superinterfaces, upwards}
use Rattle.class_pool.specs.declared.id.ClassId.{ClassId}
use Rattle.class_pool.specs.declared.id.ClassId.TheVariants.{Prog}
use Rattle.class_pool.specs.declared.id.MemberAt.{MemberAt}
use Rattle.link_check.specs.Links.{callable, is_callable_role, linked_field, linked_method}
use Rattle.link_check.specs.Links.{resolved_method}
use Rattle.link_check.specs.Profile.{call_kinds, class_of, field_kinds, field_text_kinds, member_kinds}
use Rattle.link_check.specs.Profile.{method_text_kinds}
use Rattle.link_check.specs.Profile.{no_init_kinds, op_kinds, special_class_kinds, static_kinds, unless, used_kinds}
use Rattle.link_check.specs.declared.fault.LinkKind.{LinkKind}
use Rattle.link_check.specs.declared.fault.LinkKind.TheVariants as link
use Rattle.link_check.specs.declared.fault.ProfileKind.{ProfileKind}
use Rattle.link_check.specs.declared.fault.ProfileKind.TheVariants.{WrongKind}
use Rattle.class_rename.specs.Names.{same_names}
use Rattle.member_shrink.specs.Shrunk.{is_marked, shrunk}
use Rattle.require_sys.specs.Requires.{Item, field_ref_wants, method_ref_wants, op_wants, requires, special_wants}
use Rattle.require_sys.specs.declared.kept.KeptByRules.{KeptByRules}
use Rattle.image_laws.specs.SetImage.Image.{Image}
use Rattle.image_laws.specs.ShrunkImage.Keeping.{is_class_kept}
use Rattle.image_laws.proofs.ShrunkImage.Classes.{class_there, f}
use Rattle.image_laws.specs.TakenSet.TakenSet.{IsTaken}
use Rattle.image_laws.proofs.TakenSet.Names.{class_found}
use Rattle.type_verifier.specs.Environment.{Environment}
use Rattle.type_verifier.specs.Members.{is_class_base, is_class_type, is_early_field, is_guarded, is_guarded_field}
use Rattle.type_verifier.specs.Members.{is_guarded_method}
use Rattle.type_verifier.specs.Rules.{told_type}
use Rattle.type_verifier.specs.Verified.{environment}
use Rattle.removal_laws.proofs.RemovalImage.Links.{base_class, field_link, is_taken}
use Rattle.removal_laws.proofs.RemovalImage.Marked.{image}
use Rattle.removal_laws.proofs.RemovalImage.Wanted.{AllIn, In, field_parts, method_parts}
use Rattle.removal_laws.proofs.RemovalLinks.Instructions.{field_marked, field_there, left, method_marked, method_there}
use Rattle.removal_laws.proofs.RemovalLinks.Instructions.{role_same}
use Rattle.image_laws.specs.TypedImage.Named.{IsFieldNamed, IsMethodNamed, IsOpNamed}
use Rattle.image_laws.proofs.TypedImage.Guarding.{early_moved, guarded_moved}
use Rattle.image_laws.proofs.TypedImage.Staying.{field_ref_stays, method_ref_stays, method_told_stays, told_stays}
use Rattle.removal_laws.proofs.RemovalTyped.Naming.{array_named, base_named, field_text_named, method_text_named}
use Rattle.removal_laws.proofs.RemovalTyped.Naming.{name_named}

-- ---- what a class declares is found for it

module _ (classes : List Class) (n : NameAndType) (x : ClassId) (m : MemberAt) where
  own_first : (h : ℕ) → 0 < h → declared_in classes n x ≡ Some m
      → first (declared_by classes n (flat_map (λ d. d ∷ own_superinterfaces classes d) (upwards h classes x))) ≡ Some m
  unfolding upwards
  own_first zero low is = absurd (omega (arith, low))
  own_first (suc h) low is =
      ap (λ o. first (cons_option o (declared_by classes n (own_superinterfaces classes x
      ++ flat_map (λ d. d ∷ own_superinterfaces classes d) (above h))))) is
    where
      above : ℕ → List ClassId
      above h = option_map_or (upwards h classes) (superclass classes x) []

  own_found : declared_in classes n x ≡ Some m → field_found classes x n ≡ Some m
  own_found is = own_first highest (omega arith) is

-- a role that a program may name
pub callable_role : (classes : List Class) (from : ClassId) (m : MemberAt) → callable classes from (Ok m) ≡ Ok m
    → is_callable_role (role_at m) ≡ true
callable_role classes from m = by (is_callable_role (role_at m))
  where
    by : (t : Bool) → cond t (Ok m) (Err link.LeftOutMember) ≡ Ok m → t ≡ true
    by true e = refl
    by false e = absurd cc

module _ (classes : List Class) (rules : KeptByRules) (marks : List Bool)
    (closed : Closed (requires classes rules) (is_marked marks)) (taken : IsTaken classes) (n : ℕ)
    (own : is_class_kept classes marks (Prog n) ≡ true) (c : Class) (there : slice_get classes n ≡ Some c)
    (k j : ℕ) (m : Method) (code : Code) where
  abbrev out : List Class
  out = shrunk classes marks

  abbrev pub i : Image classes out
  i = image classes rules marks closed taken

  abbrev All : List Item → Type 0
  All items = AllIn classes rules marks closed items

  abbrev at : ℕ
  at = left classes rules marks closed taken n own

  -- what the rules look at, in the set and in what is left
  abbrev pub whole : Environment
  whole = environment classes n c k m code

  abbrev pub rest : Environment
  rest = environment out at (f classes marks n c) j m code

  -- ---- members

  -- what is linked in both sets is guarded in both
  guarded_same : (a b : Result MemberAt LinkKind) (x : MemberAt) → a ≡ Ok x → callable classes (Prog n) a ≡ Ok x
      → b ≡ Ok (i.moved_member x) → i.kept_member x ≡ true
      → is_guarded rest (callable out (Prog at) b) ≡ is_guarded whole (callable classes (Prog n) a)
  guarded_same a b x linked may moved kept =
      let role = callable_role classes (Prog n) x (ap (callable classes (Prog n)) (sym linked) ∙ may) in
      ap (λ r. is_guarded rest (callable out (Prog at) r)) moved
      ∙ ap (λ role. is_guarded rest (cond (is_callable_role role) (Ok (i.moved_member x)) (Err link.LeftOutMember)))
      (role_same classes rules marks closed taken x)
      ∙ ap (λ (t : Bool). is_guarded rest (cond t (Ok (i.moved_member x)) (Err link.LeftOutMember))) role
      ∙ guarded_moved whole rest i own refl x kept
      ∙ ap (is_guarded whole) (sym may)

  -- ---- the own class

  pub own_named : class_named classes c.name ≡ Some (Prog n)
  own_named =
      ap (λ o. class_named classes (option_map_or (λ (d : Class). d.name) o [])) (sym there)
      ∙ class_found classes taken (Prog n) (class_there classes marks (Prog n) own)

  -- a type that is the own class leads to it
  own_type : (t : Bool) (b : Base) → (t && is_class_base c.name b) ≡ true
      → cond t (base_class classes b) None ≡ Some (Prog n)
  own_type true (base.Class name) e = ap (class_named classes) (sym (same_text c.name name (sym e))) ∙ own_named
  own_type true base.Boolean e = absurd cc
  own_type true base.Byte e = absurd cc
  own_type true base.Char e = absurd cc
  own_type true base.Short e = absurd cc
  own_type true base.Int e = absurd cc
  own_type true base.Long e = absurd cc
  own_type true base.Float e = absurd cc
  own_type true base.Double e = absurd cc
  own_type false b e = absurd cc

  -- what the own class declares under the name of a reference to it is what the reference leads to
  declared_kept : (r : MemberRef) (x : MemberAt) → linked_field classes (Prog n) r ≡ Ok x → i.kept_member x ≡ true
      → is_class_type c.name r.class ≡ true
      → IfSome (declared_in classes (r.name, r.ty) (Prog n)) (λ y. i.kept_member y ≡ true)
  declared_kept r x linked kept e = by (declared_in classes (r.name, r.ty) (Prog n)) refl
    where
      by : (o : Option MemberAt) → declared_in classes (r.name, r.ty) (Prog n) ≡ o
          → IfSome o (λ y. i.kept_member y ≡ true)
      by None is = tt
      by (Some y) is =
          let l = field_link classes (Prog n) r x linked in
          let one : Some l.class ≡ Some (Prog n) =
          sym l.class_is ∙ own_type (r.class.dims == 0) r.class.base e in
          let class : l.class ≡ Prog n = cc in
          let two : Some y ≡ Some x =
          sym (own_found classes (r.name, r.ty) (Prog n) y is)
          ∙ ap (λ (d : ClassId). field_found classes d (r.name, r.ty)) (sym class) ∙ l.member_is in
          let member : x ≡ y = cc in
          subst (λ (z : MemberAt). i.kept_member z ≡ true) member kept

  -- ---- references

  field_named : (static written : Bool) (r : MemberRef) → All (field_ref_wants classes n r)
      → field_kinds classes n m.name static written r ≡ [] → IsFieldNamed same_names whole rest i r
  field_named static written r all none =
      let of_member = used_kinds classes n m.name static written in
      let linked = (nil_parts (field_text_kinds classes n (read_field r.ty))
      (member_kinds (linked_field classes (Prog n) r) of_member) none).1 in
      let t = is_taken classes (Prog n) (linked_field classes (Prog n) r) of_member linked in
      let kept = field_marked classes rules marks closed taken n own r of_member all linked t.member t.linked in
      let parts = field_parts classes rules marks closed n r all in
      let moved = field_there classes rules marks closed taken n own r t.member parts.0 kept t.linked in
      record {
        class = base_named classes rules marks closed taken r.class.base parts.0;
        type = field_text_named classes rules marks closed taken (read_field r.ty) parts.1;
        told = ap (λ (s : MemberRef). told_type (read_field s.ty)) (field_ref_stays r)
            ∙ told_stays (told_type (read_field r.ty));
        guarded = ap (is_guarded_field rest) (field_ref_stays r)
            ∙ guarded_same (linked_field classes (Prog n) r) (linked_field out (Prog at) r) t.member t.linked t.callable
            moved kept;
        early = ap (is_early_field rest) (field_ref_stays r)
            ∙ early_moved whole rest i own refl r r refl refl refl (declared_kept r t.member t.linked kept);
      }

  -- by the kinds of a reference to a method, whatever is asked of it
  method_named_by : (r : MemberRef) (of_member : MemberAt → List ProfileKind) → All (method_ref_wants classes n r)
      → member_kinds (linked_method classes (Prog n) r) of_member ≡ [] → IsMethodNamed same_names whole rest i r
  method_named_by r of_member all linked =
      let t = is_taken classes (Prog n) (linked_method classes (Prog n) r) of_member linked in
      let kept = method_marked classes rules marks closed taken n own r of_member all linked t.member t.linked in
      let parts = method_parts classes rules marks closed n r all in
      let moved = method_there classes rules marks closed taken n own r t.member parts.0 kept t.linked in
      record {
        class = base_named classes rules marks closed taken r.class.base parts.0;
        type = method_text_named classes rules marks closed taken (read_method r.ty) parts.1;
        told = ap (λ (s : MemberRef). told_type (read_method s.ty)) (method_ref_stays r)
            ∙ method_told_stays (told_type (read_method r.ty));
        guarded = ap (is_guarded_method rest) (method_ref_stays r)
            ∙ guarded_same (linked_method classes (Prog n) r) (linked_method out (Prog at) r) t.member t.linked
            t.callable moved kept;
        constructor = refl;
      }

  method_named : (static : Bool) (r : MemberRef) → All (method_ref_wants classes n r)
      → call_kinds classes n static r ≡ [] → IsMethodNamed same_names whole rest i r
  method_named static r all none =
      method_named_by r (static_kinds classes static) all
      (nil_parts (method_text_kinds classes n (read_method r.ty)
      ++ unless (not (is_text r.name (codes "<clinit>"))) WrongKind)
      (member_kinds (linked_method classes (Prog n) r) (static_kinds classes static)) none).1

  -- ---- instructions

  pub op_named : (size : ℕ) (o : Op) → IsGoodOp size o → All (op_wants classes n o)
      → op_kinds classes n m.name o ≡ [] → IsOpNamed same_names whole rest i o
  op_named size (op.GetStatic r) good all none = field_named true false r all none
  op_named size (op.PutStatic r) good all none = field_named true true r all none
  op_named size (op.GetField r) good all none = field_named false false r all none
  op_named size (op.PutField r) good all none = field_named false true r all none
  op_named size (op.InvokeVirtual r) good all none =
      method_named false r all (nil_parts (call_kinds classes n false r) (no_init_kinds r) none).0
  op_named size (op.InvokeStatic r) good all none =
      method_named true r all (nil_parts (call_kinds classes n true r) (no_init_kinds r) none).0
  op_named size (op.InvokeInterface r) good all none =
      method_named false r all (nil_parts (call_kinds classes n false r) (no_init_kinds r) none).0
  op_named size (op.InvokeSpecial r) good all none =
      method_named false r
      (all_split (In classes rules marks closed) (method_ref_wants classes n r)
      (special_wants classes n (class_of classes r) (resolved_method classes (Prog n) r)) all).0
      (nil_parts (call_kinds classes n false r) (special_class_kinds classes n r) none).0
  op_named size (op.New name) good all none = name_named classes rules marks closed taken name all
  op_named size (op.NewArray ty) good all none = array_named classes rules marks closed taken good.0 ty good.1
  op_named size (op.ANewArray ty) good all none = base_named classes rules marks closed taken ty.base all
  op_named size (op.CheckCast ty) good all none = base_named classes rules marks closed taken ty.base all
  op_named size (op.InstanceOf ty) good all none = base_named classes rules marks closed taken ty.base all
  op_named size (op.MultiNewArray ty dimensions) good all none =
      base_named classes rules marks closed taken ty.base all
  op_named size o good all none = tt
