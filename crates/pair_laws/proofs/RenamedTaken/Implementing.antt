-- What runs where the methods of superinterfaces are called is at its place under new names, so it is one that may run
-- (JVMS 6.5.invokeinterface).
use Rattle.std.proofs.Common.{◌≡◌, ℕ, suc, ◌+◌, not, ◌||◌, Bool, true, false, cond, List, [], ◌∷◌, ◌++◌, map}
use Rattle.std.proofs.Common.{Option, Some, None, slice_get, refl, sym, ap, subst, ◌∙◌, arith}
use Rattle.std.specs.Prelude.{is_some}
use Rattle.std.specs.List.{AllByRecursion, enumerate_from, filter, flat_map, list_any}
use Rattle.std.specs.Option.{option_map, option_map_or}
use Rattle.std.proofs.lemmas.Bool.{and_parts}
use Rattle.std.proofs.lemmas.Option.{slice_get_within}
use Rattle.removal_laws.proofs.RemovalLinks.Implementing.{more_any}
use Rattle.jv_base.proofs.Lists.{nil_parts}
use Rattle.class_model.specs.Flags.{acc_abstract, acc_final, acc_interface, has}
use Rattle.class_model.specs.declared.class.Class.{Class}
use Rattle.lib_table.specs.declared.class.LibKind.TheVariants.{Open}
use Rattle.lib_table.specs.declared.member.Role.{Role}
use Rattle.class_pool.specs.Found.{MemberRow, is_instance_method, is_instance_row, role_at, row_at, rows_in}
use Rattle.class_pool.specs.Hierarchy.{is_interface_kind, kind_of}
use Rattle.class_pool.specs.Resolution.{is_interface_in}
use Rattle.class_pool.specs.Selection.{selected}
use Rattle.class_pool.specs.Supers.{is_below}
use Rattle.class_pool.specs.Walk.{same_class, superclasses_from, superinterfaces}
use Rattle.class_pool.specs.declared.id.ClassId.{ClassId}
use Rattle.class_pool.specs.declared.id.ClassId.TheVariants.{Prog, Lib}
use Rattle.class_pool.specs.declared.id.MemberAt.{MemberAt}
use Rattle.class_pool.proofs.EachOnce.{same_itself}
use Rattle.class_pool.proofs.ObjectLaws.{interface_flag}
use Rattle.link_check.specs.Links.{is_callable_role}
use Rattle.link_check.specs.Profile.{implementing_kinds, methods_of, selected_kinds, unless}
use Rattle.link_check.specs.declared.fault.ProfileKind.{ProfileKind}
use Rattle.link_check.specs.declared.fault.ProfileKind.TheVariants.{LeftOutMember}
use Rattle.image_laws.specs.SetImage.Image.{Image}
use Rattle.image_laws.proofs.SetImage.Selecting.{selected_moved}
use Rattle.image_laws.proofs.SetImage.Walks.{superinterfaces_kept, superinterfaces_moved}
use Rattle.image_laws.proofs.TakenSet.Proper.{is_proper, open_interfaces}
use Rattle.class_rename.specs.Names.{Names}
use Rattle.class_rename.specs.Renamed.{renamed}
use Rattle.pair_laws.specs.RenamedImage.Naming.{is_class_there, is_member_there}
use Rattle.pair_laws.specs.RenamedImage.Renaming.{placed_class, placed_member}
use Rattle.pair_laws.proofs.RenamedImage.Join.{renamed_row, rows_moved}
use Rattle.pair_laws.proofs.RenamedTaken.Placed as placing
use Rattle.pair_laws.proofs.RenamedTaken.Placed.{IsPlaced, is_renamed, selected_there}
use Rattle.pair_laws.proofs.RenamedTaken.References.{role_same}

-- ---- each class of a list is one of it

-- where each class of a list is in a longer one
among : (cs all : List ClassId) → ((x : ClassId) → list_any (same_class x) cs ≡ true
    → list_any (same_class x) all ≡ true) → AllByRecursion (λ x. list_any (same_class x) all ≡ true) cs
among [] all h = tt
among (c ∷ cs) all h = (
  h c (ap (λ (t : Bool). t || list_any (same_class c) cs) (same_itself c)),
  among cs all (λ x is. h x (more_any x c cs is)),
)

behind : (us cs : List ClassId) (x : ClassId) → list_any (same_class x) cs ≡ true
    → list_any (same_class x) (us ++ cs) ≡ true
behind [] cs x h = h
behind (u ∷ us) cs x h = more_any x u (us ++ cs) (behind us cs x h)

abbrev at_index : ClassId → ℕ → MemberAt
at_index x k = record { class = x; index = k }

module _ (names : Names) (place back : ℕ → ℕ) (xs ys : List Class) (h : IsPlaced names place back xs ys) where
  abbrev i : Image xs ys
  i = placing.i names place back xs ys h

  -- ---- the instance methods of an interface stand at their places

  abbrev IsOne : ClassId → MemberAt → Type 0
  IsOne x m = (m.class ≡ x) × (is_instance_method xs m ≡ true)

  -- those among numbered rows
  abbrev numbered : ClassId → ℕ → List MemberRow → List MemberAt
  numbered x s rows =
      filter (is_instance_method xs) (map (λ (e : ℕ × MemberRow). at_index x e.0) (enumerate_from s rows))

  numbered_are : (x : ClassId) (s : ℕ) (rows : List MemberRow) → AllByRecursion (IsOne x) (numbered x s rows)
  numbered_are x s [] = tt
  numbered_are x s (row ∷ rows) = by (is_instance_method xs (at_index x s)) refl (numbered_are x (s + 1) rows)
    where
      by : (t : Bool) → is_instance_method xs (at_index x s) ≡ t
          → AllByRecursion (IsOne x) (numbered x (s + 1) rows)
          → AllByRecursion (IsOne x) (cond t (at_index x s ∷ numbered x (s + 1) rows) (numbered x (s + 1) rows))
      by true e r = ((refl, e), r)
      by false e r = r

  methods_are : (x : ClassId) → AllByRecursion (IsOne x) (methods_of xs x)
  methods_are (Lib id) = tt
  methods_are (Prog n) = numbered_are (Prog n) 0 (rows_in xs (Prog n))

  numbered_moved : (x : ClassId) (s : ℕ) (rows : List MemberRow)
      → ((k : ℕ) (row : MemberRow) → slice_get rows k ≡ Some row
      → is_instance_method ys (at_index (placed_class place x) (s + k)) ≡ is_instance_method xs (at_index x (s + k)))
      → filter (is_instance_method ys)
      (map (λ (e : ℕ × MemberRow). at_index (placed_class place x) e.0)
      (enumerate_from s (map (renamed_row names) rows)))
      ≡ map (placed_member place) (numbered x s rows)
  numbered_moved x s [] same = refl
  numbered_moved x s (row ∷ rows) same =
      let start : s + 0 ≡ s = omega arith in
      let here : is_instance_method ys (at_index (placed_class place x) s) ≡ is_instance_method xs (at_index x s) =
      subst (λ (k : ℕ). is_instance_method ys (at_index (placed_class place x) k)
      ≡ is_instance_method xs (at_index x k))
      start (same 0 row refl) in
      let rest = numbered_moved x (s + 1) rows (λ k r at.
      let next : s + suc k ≡ s + 1 + k = omega arith in
      subst (λ (j : ℕ). is_instance_method ys (at_index (placed_class place x) j)
      ≡ is_instance_method xs (at_index x j))
      next (same (suc k) r at)) in
      (λ j. cond (here j) (at_index (placed_class place x) s ∷ rest j) (rest j))
      ∙ by (is_instance_method xs (at_index x s))
    where
      by : (t : Bool)
          → cond t (at_index (placed_class place x) s ∷ map (placed_member place) (numbered x (s + 1) rows))
          (map (placed_member place) (numbered x (s + 1) rows))
          ≡ map (placed_member place) (cond t (at_index x s ∷ numbered x (s + 1) rows) (numbered x (s + 1) rows))
      by true = refl
      by false = refl

  methods_moved : (x : ClassId) → is_class_there xs x ≡ true
      → methods_of ys (placed_class place x) ≡ map (placed_member place) (methods_of xs x)
  methods_moved (Lib id) k = refl
  methods_moved (Prog n) k =
      ap (λ (rows : List MemberRow). filter (is_instance_method ys)
      (map (λ (e : ℕ × MemberRow). at_index (Prog (place n)) e.0) (enumerate_from 0 rows)))
      (rows_moved names place xs ys h.found h.found_new h.known h.apart (is_renamed names place back xs ys h)
      (Prog n) k)
      ∙ numbered_moved (Prog n) 0 (rows_in xs (Prog n)) (λ j row at.
      let plain : j ≡ 0 + j = omega arith in
      i.instance_moved (at_index (Prog n) (0 + j))
      (ap (λ (l : ℕ). is_some (slice_get (rows_in xs (Prog n)) l)) (sym plain) ∙ ap is_some at))

  -- an instance method is there
  instance_there : (m : MemberAt) → is_instance_method xs m ≡ true → is_member_there xs m ≡ true
  instance_there m = by (row_at xs m)
    where
      by : (o : Option MemberRow) → option_map_or is_instance_row o false ≡ true → is_some o ≡ true
      by None e = absurd cc
      by (Some row) e = refl

  -- ---- one class

  module _ (n : ℕ) (c : Class) (is : slice_get xs n ≡ Some c) where
    own : is_class_there xs (Prog n) ≡ true
    own = ap is_some is

    -- a class that isn't abstract is no interface (JVMS 4.1)
    no_interface : has acc_abstract c.flags.0 ≡ false → is_interface_in xs (Prog n) ≡ false
    no_interface concrete =
        ap (λ o. is_interface_kind (option_map_or kind_of o Open)) is
        ∙ by (is_interface_kind (kind_of c)) refl
      where
        flags : (not (has (acc_final + acc_abstract) c.flags.0) ≡ true)
            × ((not (has acc_interface c.flags.0) || has acc_abstract c.flags.0) ≡ true)
        flags = and_parts (not (has (acc_final + acc_abstract) c.flags.0))
            (not (has acc_interface c.flags.0) || has acc_abstract c.flags.0) (h.taken.formed n c is).flags

        never : (s a : Bool) → s ≡ true → a ≡ false → (not s || a) ≡ true → ⊥
        never true false s a h = cc
        never true true s a h = cc
        never false a s e h = cc

        by : (t : Bool) → is_interface_kind (kind_of c) ≡ t → t ≡ false
        by false e = refl
        by true e = absurd (never (has acc_interface c.flags.0) (has acc_abstract c.flags.0) (interface_flag c e)
            concrete flags.1)

    one_right : is_interface_in xs (Prog n) ≡ false → (m : MemberAt) → is_below xs (Prog n) m.class ≡ true
        → is_instance_method xs m ≡ true → selected_kinds xs n m ≡ []
        → selected_kinds ys (place n) (placed_member place m) ≡ []
    one_right of_class m below instance none =
        let same = (selected_moved xs ys i (is_proper xs h.taken) (selected_there names place back xs ys h) (Prog n) m
        (slice_get_within xs n c is) own of_class (instance_there m instance) below
        (λ t. (instance, open_interfaces xs h.taken m t instance))).0 in
        ap (λ o. option_map_or (λ one. unless (is_callable_role (role_at one)) LeftOutMember) o []) same
        ∙ by (selected xs (Prog n) m) none
      where
        by : (o : Option MemberAt)
            → option_map_or (λ one. unless (is_callable_role (role_at one)) LeftOutMember) o [] ≡ []
            → option_map_or (λ one. unless (is_callable_role (role_at one)) LeftOutMember)
            (option_map (placed_member place) o) [] ≡ []
        by None e = refl
        by (Some s) e = ap (λ (r : Role). unless (is_callable_role r) LeftOutMember) (role_same place s) ∙ e

    some_right : is_interface_in xs (Prog n) ≡ false → (x : ClassId) → is_below xs (Prog n) x ≡ true
        → (ms : List MemberAt) → AllByRecursion (IsOne x) ms → flat_map (selected_kinds xs n) ms ≡ []
        → flat_map (selected_kinds ys (place n)) (map (placed_member place) ms) ≡ []
    some_right of_class x below [] all none = refl
    some_right of_class x below (m ∷ ms) all none =
        let nones = nil_parts (selected_kinds xs n m) (flat_map (selected_kinds xs n) ms) none in
        ap (λ (t : List ProfileKind). t ++ flat_map (selected_kinds ys (place n)) (map (placed_member place) ms))
        (one_right of_class m (ap (is_below xs (Prog n)) all.0.0 ∙ below) all.0.1 nones.0)
        ∙ some_right of_class x below ms all.1 nones.1

    each_right : is_interface_in xs (Prog n) ≡ false → (cs : List ClassId)
        → AllByRecursion (λ x. is_class_there xs x ≡ true) cs
        → AllByRecursion (λ x. is_below xs (Prog n) x ≡ true) cs
        → flat_map (λ x. flat_map (selected_kinds xs n) (methods_of xs x)) cs ≡ []
        → flat_map (λ x. flat_map (selected_kinds ys (place n)) (methods_of ys x)) (map (placed_class place) cs) ≡ []
    each_right of_class [] there below none = refl
    each_right of_class (x ∷ cs) there below none =
        let nones = nil_parts (flat_map (selected_kinds xs n) (methods_of xs x))
        (flat_map (λ x. flat_map (selected_kinds xs n) (methods_of xs x)) cs) none in
        let rest = flat_map (λ x. flat_map (selected_kinds ys (place n)) (methods_of ys x))
        (map (placed_class place) cs) in
        ap (λ (ms : List MemberAt). flat_map (selected_kinds ys (place n)) ms ++ rest) (methods_moved x there.0)
        ∙ ap (λ (t : List ProfileKind). t ++ rest)
        (some_right of_class x below.0 (methods_of xs x) (methods_are x) nones.0)
        ∙ each_right of_class cs there.1 below.1 nones.1

    -- what runs for the methods of superinterfaces may be named
    pub implementing_right : implementing_kinds xs n c ≡ []
        → implementing_kinds ys (place n) (renamed names c) ≡ []
    implementing_right none = by (has acc_abstract c.flags.0) refl none
      where
        by : (t : Bool) → has acc_abstract c.flags.0 ≡ t
            → cond t [] (flat_map (λ x. flat_map (selected_kinds xs n) (methods_of xs x))
            (superinterfaces xs (Prog n))) ≡ []
            → cond t [] (flat_map (λ x. flat_map (selected_kinds ys (place n)) (methods_of ys x))
            (superinterfaces ys (Prog (place n)))) ≡ []
        by true e none = refl
        by false e none =
            ap (flat_map (λ x. flat_map (selected_kinds ys (place n)) (methods_of ys x)))
            (superinterfaces_moved xs ys i (Prog n) own)
            ∙ each_right (no_interface e) (superinterfaces xs (Prog n)) (superinterfaces_kept xs ys i (Prog n) own)
            (among (superinterfaces xs (Prog n)) (superclasses_from xs (Prog n) ++ superinterfaces xs (Prog n))
            (behind (superclasses_from xs (Prog n)) (superinterfaces xs (Prog n)))) none
