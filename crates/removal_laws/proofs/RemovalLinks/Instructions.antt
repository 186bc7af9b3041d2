-- An instruction of a kept method that is taken is taken in what is left.
use Rattle.std.proofs.Common.{◌≡◌, ℕ, not, ◌&&◌, ◌||◌, Bool, true, false, cond, List, [], ◌∷◌, ◌++◌, Option, Some, None}
use Rattle.std.proofs.Common.{Result, Ok, Err, refl, sym, ap, subst, ◌∙◌}
use Rattle.std.specs.Bool.{beq}
use Rattle.std.specs.Prelude.{IfSome, ◌==◌, codes}
use Rattle.std.specs.List.{cons_option, flat_map}
use Rattle.std.specs.Option.{option_map, option_map_or}
use Rattle.jv_base.specs.Descriptors.{read_field, read_method}
use Rattle.jv_base.specs.Names.{is_text}
use Rattle.jv_base.specs.declared.descriptors.BadDescriptor.{BadDescriptor}
use Rattle.jv_base.specs.declared.types.Base.{Base}
use Rattle.jv_base.specs.declared.types.Base.TheVariants as base
use Rattle.jv_base.specs.declared.types.FieldType.{FieldType}
use Rattle.jv_base.specs.declared.types.MethodType.{MethodType}
use Rattle.jv_base.proofs.Lists.{all_split, nil_parts}
use Rattle.mark_core.specs.Marks.{Closed}
use Rattle.class_model.specs.Flags.{acc_abstract, acc_final, acc_static, has, is_init}
use Rattle.class_model.specs.declared.class.Class.{Class}
use Rattle.class_model.specs.declared.code.Handler.{Handler}
use Rattle.class_model.specs.declared.op.MemberRef.{MemberRef}
use Rattle.class_model.specs.declared.op.Op.{Op}
use Rattle.class_model.specs.declared.op.Op.TheVariants as op
use Rattle.lib_table.specs.declared.member.Role.{Role}
use Rattle.class_pool.specs.Found.{is_final_member, role_at}
use Rattle.class_pool.specs.Hierarchy.{class_named}
use Rattle.class_pool.specs.Resolution.{is_interface_in}
use Rattle.class_pool.specs.Walk.{same_class}
use Rattle.class_pool.specs.declared.id.ClassId.{ClassId}
use Rattle.class_pool.specs.declared.id.ClassId.TheVariants.{Prog, Lib}
use Rattle.class_pool.specs.declared.id.MemberAt.{MemberAt}
use Rattle.link_check.specs.Links.{callable, is_callable_role, linked_field, linked_method}
use Rattle.link_check.specs.Profile.{base_kinds, call_kinds, changed_kinds, class_kinds, class_of, field_kinds}
use Rattle.link_check.specs.Profile.{field_text_kinds, init_kinds, is_abstract_class, is_of_library, made_kinds}
use Rattle.link_check.specs.Profile.{member_kinds, method_text_kinds, name_kinds, new_kinds, no_init_kinds, op_kinds}
use Rattle.link_check.specs.Profile.{special_class_kinds, static_kinds, super_kinds, type_kinds, unless, used_kinds}
use Rattle.link_check.specs.Profile.{written_kinds}
use Rattle.link_check.specs.declared.fault.LinkKind.{LinkKind}
use Rattle.link_check.specs.declared.fault.ProfileKind.{ProfileKind}
use Rattle.link_check.specs.declared.fault.ProfileKind.TheVariants.{Inaccessible, LeftOutMember, WrongKind}
use Rattle.member_shrink.specs.Shrunk.{is_marked, shrunk}
use Rattle.require_sys.specs.Requires.{Item, base_wants, field_ref_wants, field_text_wants, method_ref_wants}
use Rattle.require_sys.specs.Requires.{method_text_wants, name_wants, op_wants, requires}
use Rattle.require_sys.specs.Requires.{resolved_wants, special_wants, type_wants}
use Rattle.require_sys.specs.declared.kept.KeptByRules.{KeptByRules}
use Rattle.image_laws.specs.SetImage.Image.{Image}
use Rattle.image_laws.proofs.SetImage.Access.{class_accessible_moved, class_below_moved, member_accessible_moved}
use Rattle.image_laws.proofs.SetImage.Finding.{field_moved, method_moved}
use Rattle.image_laws.specs.ShrunkImage.Keeping.{class_place, is_class_kept, member_place, rank}
use Rattle.image_laws.proofs.ShrunkImage.Classes.{class_marked, interface_same, named_moved, p, told}
use Rattle.image_laws.specs.TakenSet.TakenSet.{IsTaken}
use Rattle.image_laws.proofs.TakenSet.Proper.{is_proper}
use Rattle.image_laws.proofs.ViewImage.Standing.{Stands, field_stands, method_stands}
use Rattle.removal_laws.proofs.RemovalImage.Links.{base_class, field_from, field_link}
use Rattle.removal_laws.proofs.RemovalImage.Links.{is_taken, method_from, method_link}
use Rattle.removal_laws.proofs.RemovalImage.Marked.{image}
use Rattle.removal_laws.proofs.RemovalImage.Wanted.{AllIn, In, base_kept, field_parts, found_kept, method_parts}
use Rattle.removal_laws.proofs.RemovalImage.Wanted.{name_kept}

module _ (classes : List Class) (rules : KeptByRules) (marks : List Bool)
    (closed : Closed (requires classes rules) (is_marked marks)) (taken : IsTaken classes) where
  abbrev pub out : List Class
  out = shrunk classes marks

  abbrev pub i : Image classes out
  i = image classes rules marks closed taken

  abbrev pub All : List Item → Type 0
  All items = AllIn classes rules marks closed items

  abbrev KeptSome : Option ClassId → Type 0
  KeptSome o = IfSome o (λ y. is_class_kept classes marks y ≡ true)

  -- ---- what is told of classes and members

  pub role_same : (m : MemberAt) → role_at (member_place classes marks m) ≡ role_at m
  role_same m = by m.class m.index
    where
      by : (x : ClassId) (k : ℕ)
          → role_at (member_place classes marks (record { class = x; index = k }))
          ≡ role_at (record { class = x; index = k })
      by (Prog n) k = refl
      by (Lib id) k = refl

  library_same : (x : ClassId) → is_of_library (class_place classes marks x) ≡ is_of_library x
  library_same (Prog n) = refl
  library_same (Lib id) = refl

  abstract_same : (x : ClassId) → is_class_kept classes marks x ≡ true
      → is_abstract_class out (class_place classes marks x) ≡ is_abstract_class classes x
  abstract_same (Prog n) h = told classes marks (λ c. has acc_abstract c.flags.0) false (λ n c. refl) n
      (class_marked classes marks (Prog n) h)
  abstract_same (Lib id) h = refl

  -- a name of a kept class leads to it
  class_left : (name : List ℕ) (c : ClassId) → class_named classes name ≡ Some c
      → is_class_kept classes marks c ≡ true → class_named out name ≡ Some (class_place classes marks c)
  class_left name c e k = named_moved classes marks name (subst KeptSome (sym e) k)
      ∙ ap (option_map (class_place classes marks)) e

  class_there : (r : MemberRef) (c : ClassId) → class_of classes r ≡ Some c → is_class_kept classes marks c ≡ true
      → class_of out r ≡ Some (class_place classes marks c)
  class_there r c = by (r.class.dims == 0) r.class.base
    where
      by : (t : Bool) (b : Base) → cond t (base_class classes b) None ≡ Some c → is_class_kept classes marks c ≡ true
          → cond t (base_class out b) None ≡ Some (class_place classes marks c)
      by true (base.Class name) e k = class_left name c e k
      by true base.Boolean e k = absurd cc
      by true base.Byte e k = absurd cc
      by true base.Char e k = absurd cc
      by true base.Short e k = absurd cc
      by true base.Int e k = absurd cc
      by true base.Long e k = absurd cc
      by true base.Float e k = absurd cc
      by true base.Double e k = absurd cc
      by false b e k = absurd cc

  module _ (n : ℕ) (own : is_class_kept classes marks (Prog n) ≡ true) where
    -- the number of the class in what is left
    abbrev pub left : ℕ
    left = rank (p classes marks) 0 n

    -- ---- names

    pub name_left : (name : List ℕ) → All (name_wants classes name) → name_kinds classes n name ≡ []
        → name_kinds out left name ≡ []
    name_left name all none = by (class_named classes name) refl none
      where
        by : (o : Option ClassId) → class_named classes name ≡ o → class_kinds classes n o ≡ []
            → name_kinds out left name ≡ []
        by None is e = absurd cc
        by (Some c) is e =
            let k = name_kept classes rules marks closed name c is all in
            ap (class_kinds out left) (class_left name c is k)
            ∙ ap (λ (t : Bool). unless t Inaccessible) (class_accessible_moved classes out i (Prog n) c own k) ∙ e

    pub base_left : (b : Base) → All (base_wants classes b) → base_kinds classes n b ≡ [] → base_kinds out left b ≡ []
    base_left (base.Class name) all none = name_left name all none
    base_left base.Boolean all none = refl
    base_left base.Byte all none = refl
    base_left base.Char all none = refl
    base_left base.Short all none = refl
    base_left base.Int all none = refl
    base_left base.Long all none = refl
    base_left base.Float all none = absurd cc
    base_left base.Double all none = absurd cc

    pub types_left : (tys : List FieldType) → All (flat_map (type_wants classes) tys)
        → flat_map (type_kinds classes n) tys ≡ [] → flat_map (type_kinds out left) tys ≡ []
    types_left [] all none = refl
    types_left (ty ∷ tys) all none =
        let parts = all_split (In classes rules marks closed) (type_wants classes ty)
        (flat_map (type_wants classes) tys) all in
        let nones = nil_parts (type_kinds classes n ty) (flat_map (type_kinds classes n) tys) none in
        ap (λ (t : List ProfileKind). t ++ flat_map (type_kinds out left) tys) (base_left ty.base parts.0 nones.0)
        ∙ types_left tys parts.1 nones.1

    pub names_left : (names : List (List ℕ)) → All (flat_map (name_wants classes) names)
        → flat_map (name_kinds classes n) names ≡ [] → flat_map (name_kinds out left) names ≡ []
    names_left [] all none = refl
    names_left (name ∷ names) all none =
        let parts = all_split (In classes rules marks closed) (name_wants classes name)
        (flat_map (name_wants classes) names) all in
        let nones = nil_parts (name_kinds classes n name) (flat_map (name_kinds classes n) names) none in
        ap (λ (t : List ProfileKind). t ++ flat_map (name_kinds out left) names) (name_left name parts.0 nones.0)
        ∙ names_left names parts.1 nones.1

    field_text_left : (o : Result FieldType BadDescriptor) → All (field_text_wants classes o)
        → field_text_kinds classes n o ≡ [] → field_text_kinds out left o ≡ []
    field_text_left (Ok ty) all none = base_left ty.base all none
    field_text_left (Err bad) all none = refl

    method_text_left : (o : Result MethodType BadDescriptor) → All (method_text_wants classes o)
        → method_text_kinds classes n o ≡ [] → method_text_kinds out left o ≡ []
    method_text_left (Ok ty) all none = types_left (cons_option ty.ret ty.args) all none
    method_text_left (Err bad) all none = refl

    -- ---- members

    used_left : (method : List ℕ) (static written : Bool) (m : MemberAt) → i.kept_member m ≡ true
        → used_kinds out left method static written (i.moved_member m) ≡ used_kinds classes n method static written m
    used_left method static written m k =
        ap (λ (t : Bool). unless (beq t static) WrongKind
        ++ changed_kinds out left method static written (i.moved_member m)) (i.flag_moved acc_static m k)
        ∙ ap (λ (t : List ProfileKind). static_kinds classes static m ++ t) (by written)
      where
        writes : (w : List ℕ) → written_kinds out left w method (i.moved_member m) ≡ written_kinds classes n w method m
        writes w =
            ap (λ (t : Bool). unless (not t || (same_class (i.moved m.class) (Prog left) && is_text method w))
            WrongKind)
            (i.flag_moved acc_final m k)
            ∙ ap (λ (t : Bool). unless (not (is_final_member classes m) || (t && is_text method w)) WrongKind)
            (i.same_moved m.class (Prog n) (i.class_kept m k) own)

        by : (w : Bool) → changed_kinds out left method static w (i.moved_member m)
            ≡ changed_kinds classes n method static w m
        by true =
            ap (λ (t : List ProfileKind). t
            ++ unless (not (static && is_of_library (i.moved m.class))) LeftOutMember)
            (writes (cond static (codes "<clinit>") (codes "<init>")))
            ∙ ap (λ (t : Bool). written_kinds classes n (cond static (codes "<clinit>") (codes "<init>")) method m
            ++ unless (not (static && t)) LeftOutMember) (library_same m.class)
        by false = refl

    -- a reference without a fault has none where its member is at its place
    member_left : (a b : Result MemberAt LinkKind) (of_a of_b : MemberAt → List ProfileKind)
        → ((m : MemberAt) → a ≡ Ok m → (b ≡ Ok (i.moved_member m)) × (of_b (i.moved_member m) ≡ of_a m))
        → member_kinds a of_a ≡ [] → member_kinds b of_b ≡ []
    member_left (Ok m) b of_a of_b step none =
        let s = step m refl in
        ap (λ l. member_kinds l of_b) s.0
        ∙ ap (λ (t : Role). unless (is_callable_role t) LeftOutMember ++ of_b (i.moved_member m)) (role_same m)
        ∙ ap (λ (t : List ProfileKind). unless (is_callable_role (role_at m)) LeftOutMember ++ t) s.1 ∙ none
    member_left (Err kind) b of_a of_b step none = absurd cc

    abbrev SomeKept : Option MemberAt → Type 0
    SomeKept o = IfSome o (λ m. i.kept_member m ≡ true)

    -- what is linked is marked, where a program may name it
    pub field_marked : (r : MemberRef) (of_member : MemberAt → List ProfileKind) → All (field_ref_wants classes n r)
        → member_kinds (linked_field classes (Prog n) r) of_member ≡ [] → (m : MemberAt)
        → linked_field classes (Prog n) r ≡ Ok m → i.kept_member m ≡ true
    field_marked r of_member all none m e =
        let t = is_taken classes (Prog n) (linked_field classes (Prog n) r) of_member none in
        let same : Ok m ≡ Ok t.member = sym e ∙ t.linked in
        let is : t.member ≡ m = cc in
        let l = field_link classes (Prog n) r t.member t.linked in
        let marked = subst (λ o. All (resolved_wants classes o)) t.callable
        (field_parts classes rules marks closed n r all).2 in
        subst (λ (z : MemberAt). i.kept_member z ≡ true) is
        (found_kept classes rules marks closed (r.name, r.ty) t.member
        (subst (λ o. IfSome o (Stands classes (r.name, r.ty))) l.member_is
        (field_stands classes (r.name, r.ty) l.class)) marked.0)

    pub method_marked : (r : MemberRef) (of_member : MemberAt → List ProfileKind) → All (method_ref_wants classes n r)
        → member_kinds (linked_method classes (Prog n) r) of_member ≡ [] → (m : MemberAt)
        → linked_method classes (Prog n) r ≡ Ok m → i.kept_member m ≡ true
    method_marked r of_member all none m e =
        let t = is_taken classes (Prog n) (linked_method classes (Prog n) r) of_member none in
        let same : Ok m ≡ Ok t.member = sym e ∙ t.linked in
        let is : t.member ≡ m = cc in
        let l = method_link classes (Prog n) r t.member t.linked in
        let marked = subst (λ o. All (resolved_wants classes o)) t.callable
        (method_parts classes rules marks closed n r all).2 in
        subst (λ (z : MemberAt). i.kept_member z ≡ true) is
        (found_kept classes rules marks closed (r.name, r.ty) t.member
        (subst (λ o. IfSome o (Stands classes (r.name, r.ty))) l.member_is
        (method_stands classes (is_proper classes taken).abstract_methods (r.name, r.ty) l.class)) marked.0)

    -- a reference to what is kept leads to it in what is left
    pub field_there : (r : MemberRef) (m : MemberAt) → All (base_wants classes r.class.base) → i.kept_member m ≡ true
        → linked_field classes (Prog n) r ≡ Ok m → linked_field out (Prog left) r ≡ Ok (i.moved_member m)
    field_there r m all k e =
        let l = field_link classes (Prog n) r m e in
        let c = base_kept classes rules marks closed (r.class.dims == 0) r.class.base l.class l.class_is all in
        field_from out (Prog left) r (i.moved_member m)
        (record {
          class = i.moved l.class;
          class_is = class_there r l.class l.class_is c;
          accessible = class_accessible_moved classes out i (Prog n) l.class own c ∙ l.accessible;
          member_is = field_moved classes out i (r.name, r.ty) (r.name, r.ty) refl l.class c
              (subst SomeKept (sym l.member_is) k) ∙ ap (option_map i.moved_member) l.member_is;
          member_accessible = member_accessible_moved classes out i (Prog n) l.class m own c k ∙ l.member_accessible;
          rightly = refl;
        })

    pub method_there : (r : MemberRef) (m : MemberAt) → All (base_wants classes r.class.base) → i.kept_member m ≡ true
        → linked_method classes (Prog n) r ≡ Ok m → linked_method out (Prog left) r ≡ Ok (i.moved_member m)
    method_there r m all k e =
        let l = method_link classes (Prog n) r m e in
        let c = base_kept classes rules marks closed (r.class.dims == 0) r.class.base l.class l.class_is all in
        method_from out (Prog left) r (i.moved_member m)
        (record {
          class = i.moved l.class;
          class_is = class_there r l.class l.class_is c;
          accessible = class_accessible_moved classes out i (Prog n) l.class own c ∙ l.accessible;
          member_is = method_moved classes out i (is_proper classes taken).abstract_methods (r.name, r.ty)
              (r.name, r.ty)
              refl l.class c (subst SomeKept (sym l.member_is) k) ∙ ap (option_map i.moved_member) l.member_is;
          member_accessible = member_accessible_moved classes out i (Prog n) l.class m own c k ∙ l.member_accessible;
          rightly = ap (λ (t : Bool). beq t r.of_interface) (interface_same classes marks l.class c) ∙ l.rightly;
        })

    -- ---- references

    field_ref_left : (method : List ℕ) (static written : Bool) (r : MemberRef) → All (field_ref_wants classes n r)
        → field_kinds classes n method static written r ≡ [] → field_kinds out left method static written r ≡ []
    field_ref_left method static written r all none =
        let nones = nil_parts (field_text_kinds classes n (read_field r.ty))
        (member_kinds (linked_field classes (Prog n) r) (used_kinds classes n method static written)) none in
        let parts = field_parts classes rules marks closed n r all in
        ap (λ (t : List ProfileKind). t
        ++ member_kinds (linked_field out (Prog left) r) (used_kinds out left method static written))
        (field_text_left (read_field r.ty) parts.1 nones.0)
        ∙ member_left (linked_field classes (Prog n) r) (linked_field out (Prog left) r)
        (used_kinds classes n method static written) (used_kinds out left method static written)
        (λ m e.
        let k = field_marked r (used_kinds classes n method static written) all nones.1 m e in
        (field_there r m parts.0 k e, used_left method static written m k)) nones.1

    call_left : (static : Bool) (r : MemberRef) → All (method_ref_wants classes n r)
        → call_kinds classes n static r ≡ [] → call_kinds out left static r ≡ []
    call_left static r all none =
        let nones = nil_parts (method_text_kinds classes n (read_method r.ty)
        ++ unless (not (is_text r.name (codes "<clinit>"))) WrongKind)
        (member_kinds (linked_method classes (Prog n) r) (static_kinds classes static)) none in
        let firsts = nil_parts (method_text_kinds classes n (read_method r.ty))
        (unless (not (is_text r.name (codes "<clinit>"))) WrongKind) nones.0 in
        let parts = method_parts classes rules marks closed n r all in
        ap (λ (t : List ProfileKind). t ++ unless (not (is_text r.name (codes "<clinit>"))) WrongKind
        ++ member_kinds (linked_method out (Prog left) r) (static_kinds out static))
        (method_text_left (read_method r.ty) parts.1 firsts.0)
        ∙ ap (λ (t : List ProfileKind). t
        ++ member_kinds (linked_method out (Prog left) r) (static_kinds out static)) firsts.1
        ∙ member_left (linked_method classes (Prog n) r) (linked_method out (Prog left) r)
        (static_kinds classes static) (static_kinds out static)
        (λ m e.
        let k = method_marked r (static_kinds classes static) all nones.1 m e in (
          method_there r m parts.0 k e,
          ap (λ (t : Bool). unless (beq t static) WrongKind)
              (i.flag_moved acc_static m k),
        ))
        nones.1

    special_left : (r : MemberRef) → All (method_ref_wants classes n r)
        → special_class_kinds classes n r ≡ [] → special_class_kinds out left r ≡ []
    special_left r all none = by (class_of classes r) refl none
      where
        which : (t : Bool) (c : ClassId) → is_class_kept classes marks c ≡ true
            → cond t (init_kinds classes n c r) (super_kinds classes n c) ≡ []
            → cond t (init_kinds out left (i.moved c) r) (super_kinds out left (i.moved c)) ≡ []
        which true c k e =
            member_left (linked_method classes (Prog n) r) (linked_method out (Prog left) r)
            (λ m. unless (same_class m.class c) WrongKind) (λ m. unless (same_class m.class (i.moved c)) WrongKind)
            (λ m is.
            let l = method_marked r (λ m. unless (same_class m.class c) WrongKind) all e m is in (
              method_there r m (method_parts classes rules marks closed n r all).0 l is,
              ap (λ (t : Bool). unless t WrongKind) (i.same_moved m.class c (i.class_kept m l) k),
            )) e
        which false c k e = ap (λ (t : Bool). unless t WrongKind) (class_below_moved classes out i (Prog n) c own k) ∙ e

        by : (o : Option ClassId) → class_of classes r ≡ o
            → option_map_or (λ named. cond (is_init r.name) (init_kinds classes n named r)
            (super_kinds classes n named)) o (WrongKind ∷ []) ≡ []
            → special_class_kinds out left r ≡ []
        by None is e = absurd cc
        by (Some c) is e =
            let k = base_kept classes rules marks closed (r.class.dims == 0) r.class.base c is
            (method_parts classes rules marks closed n r all).0 in
            ap (λ o. option_map_or (λ named. cond (is_init r.name) (init_kinds out left named r)
            (super_kinds out left named)) o (WrongKind ∷ [])) (class_there r c is k)
            ∙ which (is_init r.name) c k e

    new_left : (name : List ℕ) → All (name_wants classes name) → new_kinds classes n name ≡ []
        → new_kinds out left name ≡ []
    new_left name all none =
        let nones = nil_parts (name_kinds classes n name)
        (option_map_or (made_kinds classes) (class_named classes name) []) none in
        ap (λ (t : List ProfileKind). t ++ option_map_or (made_kinds out) (class_named out name) [])
        (name_left name all nones.0)
        ∙ by (class_named classes name) refl nones.0 nones.1
      where
        by : (o : Option ClassId) → class_named classes name ≡ o → class_kinds classes n o ≡ []
            → option_map_or (made_kinds classes) o [] ≡ []
            → option_map_or (made_kinds out) (class_named out name) [] ≡ []
        by None is e g = absurd cc
        by (Some c) is e g =
            let k = name_kept classes rules marks closed name c is all in
            ap (λ o. option_map_or (made_kinds out) o []) (class_left name c is k)
            ∙ ap (λ (t : Bool). unless (not t && not (is_abstract_class out (i.moved c))) WrongKind)
            (interface_same classes marks c k)
            ∙ ap (λ (t : Bool). unless (not (is_interface_in classes c) && not t) WrongKind) (abstract_same c k) ∙ g

    then_init : (r : MemberRef) (xs ys : List ProfileKind) → ys ≡ [] → xs ++ no_init_kinds r ≡ []
        → ys ++ no_init_kinds r ≡ []
    then_init r xs ys e none = ap (λ (t : List ProfileKind). t ++ no_init_kinds r) e
        ∙ (nil_parts xs (no_init_kinds r) none).1

    -- ---- instructions

    -- an instruction that is taken, of a kept method, is taken
    pub op_left : (method : List ℕ) (o : Op) → All (op_wants classes n o) → op_kinds classes n method o ≡ []
        → op_kinds out left method o ≡ []
    op_left method (op.GetStatic r) all none = field_ref_left method true false r all none
    op_left method (op.PutStatic r) all none = field_ref_left method true true r all none
    op_left method (op.GetField r) all none = field_ref_left method false false r all none
    op_left method (op.PutField r) all none = field_ref_left method false true r all none
    op_left method (op.InvokeVirtual r) all none =
        then_init r (call_kinds classes n false r) (call_kinds out left false r)
        (call_left false r all (nil_parts (call_kinds classes n false r) (no_init_kinds r) none).0) none
    op_left method (op.InvokeStatic r) all none =
        then_init r (call_kinds classes n true r) (call_kinds out left true r)
        (call_left true r all (nil_parts (call_kinds classes n true r) (no_init_kinds r) none).0) none
    op_left method (op.InvokeInterface r) all none =
        then_init r (call_kinds classes n false r) (call_kinds out left false r)
        (call_left false r all (nil_parts (call_kinds classes n false r) (no_init_kinds r) none).0) none
    op_left method (op.InvokeSpecial r) all none =
        let nones = nil_parts (call_kinds classes n false r) (special_class_kinds classes n r) none in
        let refs = (all_split (In classes rules marks closed) (method_ref_wants classes n r)
        (special_wants classes n (class_of classes r) (callable classes (Prog n) (linked_method classes (Prog n) r)))
        all).0 in
        ap (λ (t : List ProfileKind). t ++ special_class_kinds out left r) (call_left false r refs nones.0)
        ∙ special_left r refs nones.1
    op_left method (op.New name) all none = new_left name all none
    op_left method (op.ANewArray ty) all none = base_left ty.base all none
    op_left method (op.CheckCast ty) all none = base_left ty.base all none
    op_left method (op.InstanceOf ty) all none = base_left ty.base all none
    op_left method (op.MultiNewArray ty d) all none = base_left ty.base all none
    op_left method o all none = refl

    -- ---- handlers and frames

    pub handler_left : (h : Handler) → All (option_map_or (name_wants classes) h.caught [])
        → option_map_or (name_kinds classes n) h.caught [] ≡ [] → option_map_or (name_kinds out left) h.caught [] ≡ []
    handler_left h = by h.caught
      where
        by : (o : Option (List ℕ)) → All (option_map_or (name_wants classes) o [])
            → option_map_or (name_kinds classes n) o [] ≡ [] → option_map_or (name_kinds out left) o [] ≡ []
        by None all none = refl
        by (Some name) all none = name_left name all none
