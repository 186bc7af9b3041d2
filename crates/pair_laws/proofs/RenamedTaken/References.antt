-- A reference to a field or a method that breaks no rule breaks none under new names (JVMS 5.4.3, 5.4.4, 6.5).
use Rattle.std.proofs.Common.{◌≡◌, ℕ, not, ◌&&◌, ◌||◌, Bool, true, false, cond, List, [], ◌∷◌, ◌++◌, Option, Some, None}
use Rattle.std.proofs.Common.{Result, Ok, Err, slice_get, refl, sym, ap, subst, ◌∙◌}
use Rattle.std.specs.Bool.{beq}
use Rattle.std.specs.Prelude.{IfSome, ◌==◌, codes, if◌then◌else◌}
use Rattle.std.specs.Option.{option_map, option_map_or}
use Rattle.jv_base.specs.Descriptors.{read_field, read_method}
use Rattle.jv_base.specs.Names.{is_text}
use Rattle.jv_base.specs.declared.types.Base.{Base}
use Rattle.jv_base.specs.declared.types.Base.TheVariants as base
use Rattle.jv_base.proofs.Lists.{nil_parts}
use Rattle.class_model.specs.Flags.{acc_abstract, acc_final, acc_static, has, is_init}
use Rattle.class_model.specs.WellFormed.{IsFieldReference, IsMethodReference}
use Rattle.class_model.specs.declared.class.Class.{Class}
use Rattle.class_model.specs.declared.op.MemberRef.{MemberRef}
use Rattle.lib_table.specs.declared.member.Role.{Role}
use Rattle.class_pool.specs.Found.{is_final_member, role_at}
use Rattle.class_pool.specs.Hierarchy.{class_named}
use Rattle.class_pool.specs.Resolution.{is_interface_in}
use Rattle.class_pool.specs.Walk.{same_class}
use Rattle.class_pool.specs.declared.id.ClassId.{ClassId}
use Rattle.class_pool.specs.declared.id.ClassId.TheVariants.{Prog, Lib}
use Rattle.class_pool.specs.declared.id.MemberAt.{MemberAt}
use Rattle.link_check.specs.Links.{is_callable_role, linked_field, linked_method}
use Rattle.link_check.specs.Profile.{call_kinds, changed_kinds, class_kinds, class_of, field_kinds, field_text_kinds}
use Rattle.link_check.specs.Profile.{init_kinds, is_abstract_class, is_of_library, made_kinds, member_kinds}
use Rattle.link_check.specs.Profile.{method_text_kinds, name_kinds, new_kinds, no_init_kinds, special_class_kinds}
use Rattle.link_check.specs.Profile.{static_kinds, super_kinds, unless, used_kinds, written_kinds}
use Rattle.link_check.specs.declared.fault.LinkKind.{LinkKind}
use Rattle.link_check.specs.declared.fault.ProfileKind.{ProfileKind}
use Rattle.link_check.specs.declared.fault.ProfileKind.TheVariants.{LeftOutMember, WrongKind}
use Rattle.image_laws.specs.SetImage.Image.{Image}
use Rattle.image_laws.proofs.SetImage.Access.{class_accessible_moved, class_below_moved, member_accessible_moved}
use Rattle.image_laws.proofs.SetImage.Finding.{field_moved, method_moved}
use Rattle.image_laws.proofs.ViewImage.Standing.{Stands, field_stands, method_stands}
use Rattle.image_laws.proofs.TakenSet.Proper.{is_proper}
use Rattle.removal_laws.proofs.RemovalImage.Links.{base_class, field_from, field_link, method_from, method_link}
use Rattle.class_rename.specs.Names.{Names}
use Rattle.class_rename.specs.Renamed.{renamed, renamed_base, renamed_field_ref, renamed_field_text}
use Rattle.class_rename.specs.Renamed.{renamed_method_ref, renamed_method_text}
use Rattle.pair_laws.specs.RenamedImage.Naming.{is_class_there, is_member_there, new_named}
use Rattle.pair_laws.specs.RenamedImage.Renaming.{is_method_text, placed_class, placed_member, renamed_named}
use Rattle.pair_laws.proofs.RenamedImage.Descriptors.{field_is_none, method_is_one}
use Rattle.pair_laws.proofs.RenamedTaken.Placed as placing
use Rattle.pair_laws.proofs.RenamedTaken.Placed.{IsPlaced, member_there, name_given, named_kept, named_new}
use Rattle.pair_laws.proofs.RenamedTaken.Types.{field_text_right, method_text_right, name_right}

-- ---- what a place says of the library

pub role_same : (place : ℕ → ℕ) (m : MemberAt) → role_at (placed_member place m) ≡ role_at m
role_same place m = by m.class m.index
  where
    by : (x : ClassId) (k : ℕ)
        → role_at (placed_member place (record { class = x; index = k })) ≡ role_at (record { class = x; index = k })
    by (Prog n) k = refl
    by (Lib id) k = refl

library_same : (place : ℕ → ℕ) (x : ClassId) → is_of_library (placed_class place x) ≡ is_of_library x
library_same place (Prog n) = refl
library_same place (Lib id) = refl

-- the method that may write a final field of its class
abbrev pub writer : Bool → List ℕ
writer static = cond static (codes "<clinit>") (codes "<init>")

module _ (names : Names) (place back : ℕ → ℕ) (xs ys : List Class) (h : IsPlaced names place back xs ys) where
  abbrev i : Image xs ys
  i = placing.i names place back xs ys h

  abstract_same : (x : ClassId) → is_abstract_class ys (placed_class place x) ≡ is_abstract_class xs x
  abstract_same (Lib id) = refl
  abstract_same (Prog n) =
      ap (λ (o : Option Class). option_map_or (λ c. has acc_abstract c.flags.0) o false) (h.at n) ∙ by (slice_get xs n)
    where
      by : (o : Option Class) → option_map_or (λ c. has acc_abstract c.flags.0) (option_map (renamed names) o) false
          ≡ option_map_or (λ c. has acc_abstract c.flags.0) o false
      by None = refl
      by (Some c) = refl

  -- the class of a reference is there, and its new reference names the class at its place
  class_moved : (r : MemberRef) (c : ClassId) → class_of xs r ≡ Some c
      → (is_class_there xs c ≡ true)
      × (cond (r.class.dims == 0) (base_class ys (renamed_base names r.class.base)) None ≡ Some (placed_class place c))
  class_moved r c e = by (r.class.dims == 0) r.class.base e
    where
      by : (t : Bool) (b : Base) → cond t (base_class xs b) None ≡ Some c
          → (is_class_there xs c ≡ true)
          × (cond t (base_class ys (renamed_base names b)) None ≡ Some (placed_class place c))
      by true (base.Class name) e =
          (named_kept names place back xs ys h name c e, named_new names place back xs ys h name c e)
      by true base.Boolean e = absurd cc
      by true base.Byte e = absurd cc
      by true base.Char e = absurd cc
      by true base.Short e = absurd cc
      by true base.Int e = absurd cc
      by true base.Long e = absurd cc
      by true base.Float e = absurd cc
      by true base.Double e = absurd cc
      by false b e = absurd cc

  -- ---- the names of references

  pub as_field : (r : MemberRef) → IsFieldReference r
      → renamed_named names (r.name, r.ty) ≡ (names.field r.name, renamed_field_text names r.ty)
  as_field r good =
      ap (λ (b : Bool). if b then (names.method r.name r.ty, renamed_method_text names r.ty)
      else (names.field r.name, renamed_field_text names r.ty))
      (ap is_method_text good.0.descriptor.2 ∙ field_is_none good.0.descriptor.0)

  as_method : (r : MemberRef) → IsMethodReference r
      → renamed_named names (r.name, r.ty) ≡ (names.method r.name r.ty, renamed_method_text names r.ty)
  as_method r good =
      ap (λ (b : Bool). if b then (names.method r.name r.ty, renamed_method_text names r.ty)
      else (names.field r.name, renamed_field_text names r.ty))
      (ap is_method_text good.descriptor.2 ∙ method_is_one good.descriptor.0)

  abbrev SomeThere : Option MemberAt → Type 0
  SomeThere o = IfSome o (λ m. is_member_there xs m ≡ true)

  module _ (n : ℕ) (own : is_class_there xs (Prog n) ≡ true) where
    -- ---- links

    -- a reference leads to a member that is there, and its new reference to the member at its place
    pub field_there : (r : MemberRef) → IsFieldReference r → (m : MemberAt) → linked_field xs (Prog n) r ≡ Ok m
        → (is_member_there xs m ≡ true)
        × (linked_field ys (Prog (place n)) (renamed_field_ref names r) ≡ Ok (placed_member place m))
    field_there r good m e =
        let l = field_link xs (Prog n) r m e in
        let stands : Stands xs (r.name, r.ty) m =
        subst (λ o. IfSome o (Stands xs (r.name, r.ty))) l.member_is (field_stands xs (r.name, r.ty) l.class) in
        let k = member_there names place back xs ys h (r.name, r.ty) m stands in
        let c = class_moved r l.class l.class_is in
        let given : new_named names xs (r.name, r.ty) ≡ Some (names.field r.name, renamed_field_text names r.ty) =
        name_given names place back xs ys h (r.name, r.ty) m stands ∙ ap Some (as_field r good) in (
          k,
          field_from ys (Prog (place n)) (renamed_field_ref names r) (placed_member place m)
              (record {
                class = placed_class place l.class;
                class_is = c.1;
                accessible = class_accessible_moved xs ys i (Prog n) l.class own c.0 ∙ l.accessible;
                member_is = field_moved xs ys i (r.name, r.ty) (names.field r.name, renamed_field_text names r.ty) given
                    l.class c.0 (subst SomeThere (sym l.member_is) k)
                    ∙ ap (option_map (placed_member place)) l.member_is;
                member_accessible =
                    member_accessible_moved xs ys i (Prog n) l.class m own c.0 k ∙ l.member_accessible;
                rightly = refl;
              }),
        )

    pub method_there : (r : MemberRef) → IsMethodReference r → (m : MemberAt) → linked_method xs (Prog n) r ≡ Ok m
        → (is_member_there xs m ≡ true)
        × (linked_method ys (Prog (place n)) (renamed_method_ref names r) ≡ Ok (placed_member place m))
    method_there r good m e =
        let l = method_link xs (Prog n) r m e in
        let bare = (is_proper xs h.taken).abstract_methods in
        let stands : Stands xs (r.name, r.ty) m =
        subst (λ o. IfSome o (Stands xs (r.name, r.ty))) l.member_is
        (method_stands xs bare (r.name, r.ty) l.class) in
        let k = member_there names place back xs ys h (r.name, r.ty) m stands in
        let c = class_moved r l.class l.class_is in
        let given : new_named names xs (r.name, r.ty)
        ≡ Some (names.method r.name r.ty, renamed_method_text names r.ty) =
        name_given names place back xs ys h (r.name, r.ty) m stands ∙ ap Some (as_method r good) in (
          k,
          method_from ys (Prog (place n)) (renamed_method_ref names r) (placed_member place m)
              (record {
                class = placed_class place l.class;
                class_is = c.1;
                accessible = class_accessible_moved xs ys i (Prog n) l.class own c.0 ∙ l.accessible;
                member_is = method_moved xs ys i bare (r.name, r.ty)
                    (names.method r.name r.ty, renamed_method_text names r.ty) given
                    l.class c.0 (subst SomeThere (sym l.member_is) k)
                    ∙ ap (option_map (placed_member place)) l.member_is;
                member_accessible =
                    member_accessible_moved xs ys i (Prog n) l.class m own c.0 k ∙ l.member_accessible;
                rightly = ap (λ (t : Bool). beq t r.of_interface) (i.interface_moved l.class c.0) ∙ l.rightly;
              }),
        )

    -- ---- what members are asked

    -- a reference without a fault has none where its member is at its place
    member_right : (a b : Result MemberAt LinkKind) (of_a of_b : MemberAt → List ProfileKind)
        → ((m : MemberAt) → a ≡ Ok m → (b ≡ Ok (placed_member place m)) × (of_b (placed_member place m) ≡ of_a m))
        → member_kinds a of_a ≡ [] → member_kinds b of_b ≡ []
    member_right (Ok m) b of_a of_b step none =
        let s = step m refl in
        ap (λ l. member_kinds l of_b) s.0
        ∙ ap (λ (t : Role). unless (is_callable_role t) LeftOutMember ++ of_b (placed_member place m))
        (role_same place m)
        ∙ ap (λ (t : List ProfileKind). unless (is_callable_role (role_at m)) LeftOutMember ++ t) s.1 ∙ none
    member_right (Err kind) b of_a of_b step none = absurd cc

    -- of an instruction in a method whose new name initialises a class or an object where its old one did
    module _ (method new_method : List ℕ)
        (same : (static : Bool) → is_text new_method (writer static) ≡ is_text method (writer static)) where
      used_right : (static written : Bool) (m : MemberAt) → is_member_there xs m ≡ true
          → used_kinds ys (place n) new_method static written (placed_member place m)
          ≡ used_kinds xs n method static written m
      used_right static written m k =
          ap (λ (t : Bool). unless (beq t static) WrongKind
          ++ changed_kinds ys (place n) new_method static written (placed_member place m)) (i.flag_moved acc_static m k)
          ∙ ap (λ (t : List ProfileKind). static_kinds xs static m ++ t) (by written)
        where
          writes : written_kinds ys (place n) (writer static) new_method (placed_member place m)
              ≡ written_kinds xs n (writer static) method m
          writes =
              ap (λ (t : Bool). unless (not t || (same_class (placed_class place m.class) (Prog (place n))
              && is_text new_method (writer static))) WrongKind) (i.flag_moved acc_final m k)
              ∙ ap (λ (t : Bool). unless (not (is_final_member xs m) || (t && is_text new_method (writer static)))
              WrongKind) (i.same_moved m.class (Prog n) (i.class_kept m k) own)
              ∙ ap (λ (t : Bool). unless (not (is_final_member xs m) || (same_class m.class (Prog n) && t)) WrongKind)
              (same static)

          by : (w : Bool) → changed_kinds ys (place n) new_method static w (placed_member place m)
              ≡ changed_kinds xs n method static w m
          by true =
              ap (λ (t : List ProfileKind). t
              ++ unless (not (static && is_of_library (placed_class place m.class))) LeftOutMember) writes
              ∙ ap (λ (t : Bool). written_kinds xs n (writer static) method m
              ++ unless (not (static && t)) LeftOutMember) (library_same place m.class)
          by false = refl

      pub field_right : (static written : Bool) (r : MemberRef) → IsFieldReference r
          → field_kinds xs n method static written r ≡ []
          → field_kinds ys (place n) new_method static written (renamed_field_ref names r) ≡ []
      field_right static written r good none =
          let nones = nil_parts (field_text_kinds xs n (read_field r.ty))
          (member_kinds (linked_field xs (Prog n) r) (used_kinds xs n method static written)) none in
          ap (λ (t : List ProfileKind). t
          ++ member_kinds (linked_field ys (Prog (place n)) (renamed_field_ref names r))
          (used_kinds ys (place n) new_method static written))
          (field_text_right names place back xs ys h n own r.ty good.0.descriptor nones.0)
          ∙ member_right (linked_field xs (Prog n) r)
          (linked_field ys (Prog (place n)) (renamed_field_ref names r))
          (used_kinds xs n method static written) (used_kinds ys (place n) new_method static written)
          (λ m e. let there = field_there r good m e in (there.1, used_right static written m there.0)) nones.1

    pub call_right : (static : Bool) (r : MemberRef) → IsMethodReference r → call_kinds xs n static r ≡ []
        → call_kinds ys (place n) static (renamed_method_ref names r) ≡ []
    call_right static r good none =
        let nones = nil_parts (method_text_kinds xs n (read_method r.ty)
        ++ unless (not (is_text r.name (codes "<clinit>"))) WrongKind)
        (member_kinds (linked_method xs (Prog n) r) (static_kinds xs static)) none in
        let firsts = nil_parts (method_text_kinds xs n (read_method r.ty))
        (unless (not (is_text r.name (codes "<clinit>"))) WrongKind) nones.0 in
        let last = member_kinds (linked_method ys (Prog (place n)) (renamed_method_ref names r))
        (static_kinds ys static) in
        ap (λ (t : List ProfileKind). t
        ++ unless (not (is_text (names.method r.name r.ty) (codes "<clinit>"))) WrongKind ++ last)
        (method_text_right names place back xs ys h n own r.ty good.descriptor firsts.0)
        ∙ ap (λ (t : Bool). unless (not t) WrongKind ++ last) (h.form.clinit r.name r.ty)
        ∙ ap (λ (t : List ProfileKind). t ++ last) firsts.1
        ∙ member_right (linked_method xs (Prog n) r)
        (linked_method ys (Prog (place n)) (renamed_method_ref names r)) (static_kinds xs static)
        (static_kinds ys static)
        (λ m e. let there = method_there r good m e in
        (there.1, ap (λ (t : Bool). unless (beq t static) WrongKind) (i.flag_moved acc_static m there.0))) nones.1

    pub special_right : (r : MemberRef) → IsMethodReference r → special_class_kinds xs n r ≡ []
        → special_class_kinds ys (place n) (renamed_method_ref names r) ≡ []
    special_right r good none = by (class_of xs r) refl none
      where
        which : (t : Bool) (c : ClassId) → is_class_there xs c ≡ true
            → cond t (init_kinds xs n c r) (super_kinds xs n c) ≡ []
            → cond t (init_kinds ys (place n) (placed_class place c) (renamed_method_ref names r))
            (super_kinds ys (place n) (placed_class place c)) ≡ []
        which true c k e =
            member_right (linked_method xs (Prog n) r) (linked_method ys (Prog (place n)) (renamed_method_ref names r))
            (λ m. unless (same_class m.class c) WrongKind)
            (λ m. unless (same_class m.class (placed_class place c)) WrongKind)
            (λ m is. let there = method_there r good m is in
            (there.1, ap (λ (t : Bool). unless t WrongKind) (i.same_moved m.class c (i.class_kept m there.0) k))) e
        which false c k e = ap (λ (t : Bool). unless t WrongKind) (class_below_moved xs ys i (Prog n) c own k) ∙ e

        by : (o : Option ClassId) → class_of xs r ≡ o
            → option_map_or (λ named. cond (is_init r.name) (init_kinds xs n named r) (super_kinds xs n named)) o
            (WrongKind ∷ []) ≡ []
            → special_class_kinds ys (place n) (renamed_method_ref names r) ≡ []
        by None is e = absurd cc
        by (Some c) is e =
            let moved = class_moved r c is in
            ap (λ o. option_map_or (λ named. cond (is_init (names.method r.name r.ty))
            (init_kinds ys (place n) named (renamed_method_ref names r))
            (super_kinds ys (place n) named)) o (WrongKind ∷ [])) moved.1
            ∙ ap (λ (t : Bool). cond t (init_kinds ys (place n) (placed_class place c) (renamed_method_ref names r))
            (super_kinds ys (place n) (placed_class place c))) (h.form.init r.name r.ty)
            ∙ which (is_init r.name) c moved.0 e

    pub new_right : (name : List ℕ) → new_kinds xs n name ≡ [] → new_kinds ys (place n) (names.class name) ≡ []
    new_right name none =
        let nones = nil_parts (name_kinds xs n name) (option_map_or (made_kinds xs) (class_named xs name) []) none in
        ap (λ (t : List ProfileKind). t ++ option_map_or (made_kinds ys) (class_named ys (names.class name)) [])
        (name_right names place back xs ys h n own name nones.0)
        ∙ by (class_named xs name) refl nones.0 nones.1
      where
        by : (o : Option ClassId) → class_named xs name ≡ o → class_kinds xs n o ≡ []
            → option_map_or (made_kinds xs) o [] ≡ []
            → option_map_or (made_kinds ys) (class_named ys (names.class name)) [] ≡ []
        by None is e g = absurd cc
        by (Some c) is e g =
            let k = named_kept names place back xs ys h name c is in
            ap (λ o. option_map_or (made_kinds ys) o []) (named_new names place back xs ys h name c is)
            ∙ ap (λ (t : Bool). unless (not t && not (is_abstract_class ys (placed_class place c))) WrongKind)
            (i.interface_moved c k)
            ∙ ap (λ (t : Bool). unless (not (is_interface_in xs c) && not t) WrongKind) (abstract_same c) ∙ g

    -- no other instruction calls an instance initialisation method
    pub then_no_init : (r : MemberRef) (kinds others : List ProfileKind) → others ≡ []
        → kinds ++ no_init_kinds r ≡ [] → others ++ no_init_kinds (renamed_method_ref names r) ≡ []
    then_no_init r kinds others e none =
        ap (λ (t : List ProfileKind). t ++ no_init_kinds (renamed_method_ref names r)) e
        ∙ ap (λ (t : Bool). unless (not t) WrongKind) (h.form.init r.name r.ty)
        ∙ (nil_parts kinds (no_init_kinds r) none).1
