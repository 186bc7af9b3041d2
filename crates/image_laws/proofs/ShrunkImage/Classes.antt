-- What is left of a set is an image of the set: class by class and member by member.
use Rattle.std.proofs.Common.{◌≡◌, ◌<◌, ℕ, ◌+◌, nat_lt, Bool, true, false, cond, ◌&&◌, List, [], ◌∷◌, ◌++◌}
use Rattle.std.proofs.Common.{length, map, Option, Some, None, slice_get, refl, sym, ap, subst, ◌∙◌, arith, eqb}
use Rattle.std.specs.Prelude.{IfSome, codes}
use Rattle.std.specs.List.{All, AllByRecursion, cons_option, filter_map, position}
use Rattle.std.specs.Option.{option_and_then, option_map, option_map_or}
use Rattle.std.proofs.lemmas.Bool.{and_parts, eqb-true, lt-ltb, ltb-true, and_from}
use Rattle.std.proofs.lemmas.List.Elements.{All-head, All-tail}
use Rattle.jv_base.specs.Names.{is_text}
use Rattle.class_model.specs.Flags.{acc_public, has, is_init}
use Rattle.class_model.specs.declared.class.Class.{Class}
use Rattle.lib_table.specs.Library.{library}
use Rattle.lib_table.specs.Lookups as table
use Rattle.class_pool.specs.Found.{MemberRow, NameAndType, declared_in, field_row, is_instance_row, method_row, name_of}
use Rattle.class_pool.specs.Found.{package_of, row_at, rows_in, same_member, same_package}
use Rattle.class_pool.specs.Hierarchy.{IsClass, class_named, classes_named, interfaces, is_interface_kind, kind_of}
use Rattle.class_pool.specs.Hierarchy.{or_found, superclass, superclass_of}
use Rattle.class_pool.specs.Items.{class_item}
use Rattle.class_pool.specs.Members.{declared_at, member_named}
use Rattle.class_pool.specs.Resolution.{is_interface_in, is_public_class}
use Rattle.class_pool.specs.Walk.{same_class}
use Rattle.class_pool.specs.declared.id.ClassId.{ClassId}
use Rattle.class_pool.specs.declared.id.ClassId.TheVariants.{Prog, Lib}
use Rattle.class_pool.specs.declared.id.MemberAt.{MemberAt}
use Rattle.class_pool.proofs.Declaring.{superclass_there}
use Rattle.class_pool.proofs.ToldMembers.{declared_below}
use Rattle.class_pool.proofs.Walking.{interfaces_valid}
use Rattle.image_laws.specs.SetImage.Image.{Image, if_kept}
use Rattle.member_shrink.specs.Shrunk.{is_marked, shrunk, with_marked_members}
use Rattle.image_laws.specs.ShrunkImage.Keeping.{AllMembersDiffer, ObjectKept, SupersMarked, class_place, index_place}
use Rattle.image_laws.specs.ShrunkImage.Keeping.{is_class_kept, is_class_marked, is_class_there, is_index_marked}
use Rattle.image_laws.specs.ShrunkImage.Keeping.{is_member_kept, member_place, rank}
use Rattle.image_laws.proofs.ShrunkImage.Kept.{as_filter, kept_at, kept_of, kept_position, rank_same}
use Rattle.image_laws.proofs.ShrunkImage.Members.{named_left, row_left}

-- a record's member, by its class and its number
abbrev at_index : ClassId → ℕ → MemberAt
at_index x k = record { class = x; index = k }

zero_plus : (n : ℕ) → 0 + n ≡ n
zero_plus n = omega arith

module _ (classes : List Class) (marks : List Bool) where
  -- what is left
  abbrev pub out : List Class
  out = shrunk classes marks

  -- the class with this number is marked
  abbrev pub p : ℕ → Bool
  p n = is_marked marks (class_item classes n)

  -- a class with its marked members
  abbrev pub f : ℕ → Class → Class
  f n c = with_marked_members marks (class_item classes n) c

  abbrev pub kept : ClassId → Bool
  kept = is_class_kept classes marks

  abbrev pub moved : ClassId → ClassId
  moved = class_place classes marks

  abbrev pub kept_member : MemberAt → Bool
  kept_member = is_member_kept classes marks

  abbrev pub moved_member : MemberAt → MemberAt
  moved_member = member_place classes marks

  abbrev Marked : ClassId → Type 0
  Marked y = is_class_marked classes marks y ≡ true

  abbrev Kept : ClassId → Type 0
  Kept y = kept y ≡ true

  -- ---- what is kept is there, and marked

  there_test : (x : ClassId) → IsClass classes x → is_class_there classes x ≡ true
  there_test (Prog n) h = lt-ltb n (length classes) h
  there_test (Lib id) h = lt-ltb id (length library) h

  test_there : (x : ClassId) → is_class_there classes x ≡ true → IsClass classes x
  test_there (Prog n) h = ltb-true n (length classes) h
  test_there (Lib id) h = ltb-true id (length library) h

  pub kept_from : (x : ClassId) → IsClass classes x → is_class_marked classes marks x ≡ true → kept x ≡ true
  kept_from x there h = and_from (is_class_there classes x) (is_class_marked classes marks x) (there_test x there) h

  pub class_there : (x : ClassId) → kept x ≡ true → IsClass classes x
  class_there x h = test_there x (and_parts (is_class_there classes x) (is_class_marked classes marks x) h).0

  pub class_marked : (x : ClassId) → kept x ≡ true → is_class_marked classes marks x ≡ true
  class_marked x h = (and_parts (is_class_there classes x) (is_class_marked classes marks x) h).1

  -- a member that is there
  abbrev is_index_there : MemberAt → Bool
  is_index_there m = nat_lt m.index (length (rows_in classes m.class))

  pub class_of_kept : (m : MemberAt) → kept_member m ≡ true → kept m.class ≡ true
  class_of_kept m h = (and_parts (kept m.class)
      (is_index_there m && is_index_marked classes marks m.class m.index) h).0

  index_of_kept : (m : MemberAt) → kept_member m ≡ true
      → (is_index_there m ≡ true) × (is_index_marked classes marks m.class m.index ≡ true)
  index_of_kept m h =
      and_parts (is_index_there m) (is_index_marked classes marks m.class m.index)
      (and_parts (kept m.class) (is_index_there m && is_index_marked classes marks m.class m.index) h).1

  pub member_there : (m : MemberAt) → kept_member m ≡ true → m.index < length (rows_in classes m.class)
  member_there m h = ltb-true m.index (length (rows_in classes m.class)) (index_of_kept m h).0

  pub member_marked : (m : MemberAt) → kept_member m ≡ true → is_index_marked classes marks m.class m.index ≡ true
  member_marked m h = (index_of_kept m h).1

  pub member_from : (m : MemberAt) → kept m.class ≡ true → m.index < length (rows_in classes m.class)
      → is_index_marked classes marks m.class m.index ≡ true → kept_member m ≡ true
  member_from m class there h =
      and_from (kept m.class) (is_index_there m && is_index_marked classes marks m.class m.index) class
      (and_from (is_index_there m) (is_index_marked classes marks m.class m.index)
      (lt-ltb m.index (length (rows_in classes m.class)) there) h)

  -- ---- where classes stand

  out_is : out ≡ kept_of p f 0 classes
  out_is = as_filter p f 0 classes

  -- a kept class stands at its rank, with its marked members
  pub class_at : (n : ℕ) → p n ≡ true → slice_get out (rank p 0 n) ≡ option_map (f n) (slice_get classes n)
  class_at n h =
      ap (λ (t : List Class). slice_get t (rank p 0 n)) out_is
      ∙ kept_at p f 0 classes n (ap p (zero_plus n) ∙ h)
      ∙ ap (λ (k : ℕ). option_map (f k) (slice_get classes n)) (zero_plus n)

  -- ---- names

  abbrev has_name : List ℕ → Class → Bool
  has_name name c = is_text name c.name

  number_at : (name : List ℕ) (n : ℕ) → position (has_name name) classes ≡ Some n → p n ≡ true
      → position (has_name name) out ≡ Some (rank p 0 n)
  number_at name n is h =
      let here = ap p (zero_plus n) ∙ h in
      ap (position (has_name name)) out_is
      ∙ kept_position p f (has_name name) (has_name name) (λ k c. refl) 0 classes
      (λ i at gone. absurd (let e : Some n ≡ Some i = sym is
      ∙ at in let g : n ≡ i = cc in let b : true ≡ false = sym here ∙ ap (λ (k : ℕ). p (0 + k)) g ∙ gone in cc))
      ∙ ap (option_and_then (λ i. cond (p (0 + i)) (Some (rank p 0 i)) None)) is
      ∙ ap (λ (b : Bool). cond b (Some (rank p 0 n)) None) here

  number_none : (name : List ℕ) → position (has_name name) classes ≡ None → position (has_name name) out ≡ None
  number_none name is =
      ap (position (has_name name)) out_is
      ∙ kept_position p f (has_name name) (has_name name) (λ k c. refl) 0 classes
      (λ i at gone. absurd (let e : None ≡ Some i = sym is ∙ at in cc))
      ∙ ap (option_and_then (λ i. cond (p (0 + i)) (Some (rank p 0 i)) None)) is

  -- a name of a kept class leads to it
  pub named_moved : (name : List ℕ) → IfSome (class_named classes name) (λ y. kept y ≡ true)
      → class_named out name ≡ option_map moved (class_named classes name)
  named_moved name h = by (position (has_name name) classes) refl h
    where
      library : (o : Option ℕ) → option_map Lib o ≡ option_map moved (option_map Lib o)
      library None = refl
      library (Some id) = refl

      by : (o : Option ℕ) → position (has_name name) classes ≡ o
          → IfSome (or_found o (option_map Lib (table.class_named name))) (λ y. kept y ≡ true)
          → class_named out name ≡ option_map moved (or_found o (option_map Lib (table.class_named name)))
      by None e h = ap (λ o. or_found o (option_map Lib (table.class_named name))) (number_none name e)
          ∙ library (table.class_named name)
      by (Some n) e h = ap (λ o. or_found o (option_map Lib (table.class_named name)))
          (number_at name n e (class_marked (Prog n) h))

  names_moved : (names : List (List ℕ)) → AllByRecursion (λ y. kept y ≡ true) (classes_named classes names)
      → classes_named out names ≡ map moved (classes_named classes names)
  names_moved [] h = refl
  names_moved (name ∷ names) h = by (class_named classes name) refl h (λ k. names_moved names k)
    where
      by : (o : Option ClassId) → class_named classes name ≡ o
          → AllByRecursion (λ y. kept y ≡ true) (cons_option o (classes_named classes names))
          → (AllByRecursion (λ y. kept y ≡ true) (classes_named classes names)
          → classes_named out names ≡ map moved (classes_named classes names))
          → cons_option (class_named out name) (classes_named out names)
          ≡ map moved (cons_option o (classes_named classes names))
      by None e h r = ap (λ o. cons_option o (classes_named out names)) (named_moved name (none e)
          ∙ ap (option_map moved) e) ∙ r h
        where
          none : class_named classes name ≡ None → IfSome (class_named classes name) (λ y. kept y ≡ true)
          none e = subst (λ o. IfSome o (λ y. kept y ≡ true)) (sym e) tt
      by (Some y) e h r = ap (λ o. cons_option o (classes_named out names))
          (named_moved name (subst (λ o. IfSome o (λ y. kept y ≡ true)) (sym e) h.0) ∙ ap (option_map moved) e)
          ∙ ap (λ (t : List ClassId). moved y ∷ t) (r h.1)

  -- ---- what is told of a class

  pub told : {A : Type 0} (g : Class → A) (d : A) → ((n : ℕ) (c : Class) → g (f n c) ≡ g c) → (n : ℕ) → p n ≡ true
      → option_map_or g (slice_get out (rank p 0 n)) d ≡ option_map_or g (slice_get classes n) d
  told {A} g d same n h = ap (λ o. option_map_or g o d) (class_at n h) ∙ by (slice_get classes n)
    where
      by : (o : Option Class) → option_map_or g (option_map (f n) o) d ≡ option_map_or g o d
      by None = refl
      by (Some c) = same n c

  pub name_same : (x : ClassId) → kept x ≡ true → name_of out (moved x) ≡ name_of classes x
  name_same (Prog n) h = told (λ c. c.name) [] (λ n c. refl) n (class_marked (Prog n) h)
  name_same (Lib id) h = refl

  pub interface_same : (x : ClassId) → kept x ≡ true → is_interface_in out (moved x) ≡ is_interface_in classes x
  interface_same (Prog n) h = ap is_interface_kind (told kind_of _ (λ n c. refl) n (class_marked (Prog n) h))
  interface_same (Lib id) h = refl

  pub public_same : (x : ClassId) → kept x ≡ true → is_public_class out (moved x) ≡ is_public_class classes x
  public_same (Prog n) h = told (λ c. has acc_public c.flags.0) false (λ n c. refl) n (class_marked (Prog n) h)
  public_same (Lib id) h = refl

  pub package_same : (x y : ClassId) → kept x ≡ true → kept y ≡ true
      → same_package out (moved x) (moved y) ≡ same_package classes x y
  package_same x y h k = ap (λ (t : List ℕ). is_text (package_of t) (package_of (name_of out (moved y))))
      (name_same x h) ∙ ap (λ (t : List ℕ). is_text (package_of (name_of classes x)) (package_of t)) (name_same y k)

  pub one_class : (x y : ClassId) → kept x ≡ true → kept y ≡ true → same_class (moved x) (moved y) ≡ same_class x y
  one_class (Prog m) (Prog n) h k = rank_same p 0 m n (ap p (zero_plus m) ∙ class_marked (Prog m) h)
      (ap p (zero_plus n) ∙ class_marked (Prog n) k)
  one_class (Prog m) (Lib n) h k = refl
  one_class (Lib m) (Prog n) h k = refl
  one_class (Lib m) (Lib n) h k = refl

  -- ---- supertypes

  some_kept : (o : Option ClassId) → IfSome o (IsClass classes) → IfSome o Marked → IfSome o Kept
  some_kept None there h = tt
  some_kept (Some y) there h = kept_from y there h

  all_kept : (ys : List ClassId) → All (IsClass classes) ys → AllByRecursion Marked ys → AllByRecursion Kept ys
  all_kept [] there h = tt
  all_kept (y ∷ ys) there h = (
    kept_from y (All-head (IsClass classes) y ys there) h.0,
    all_kept ys (All-tail (IsClass classes) y ys there) h.1,
  )

  module _ (up : SupersMarked classes marks) where
    library_super : (o : Option ℕ) → IfSome (option_map Lib o) Marked
    library_super None = tt
    library_super (Some id) = refl

    library_interfaces : (ids : List ℕ) → AllByRecursion Marked (filter_map (λ i. Some (Lib i)) ids)
    library_interfaces [] = tt
    library_interfaces (i ∷ ids) = (refl, library_interfaces ids)

    supers_marked : (x : ClassId) → kept x ≡ true
        → IfSome (superclass classes x) Marked × AllByRecursion Marked (interfaces classes x)
    supers_marked (Prog n) h = by (slice_get classes n) refl
      where
        by : (o : Option Class) → slice_get classes n ≡ o
            → IfSome (superclass classes (Prog n)) Marked × AllByRecursion Marked (interfaces classes (Prog n))
        by None e = (
          subst (λ o. IfSome (option_and_then (superclass_of classes) o) Marked) (sym e) tt,
          subst (λ o. AllByRecursion Marked (option_map_or (λ c. classes_named classes c.interfaces) o [])) (sym e) tt,
        )
        by (Some c) e = up n c e (class_marked (Prog n) h)
    supers_marked (Lib id) h = (library_super (table.super_of id), library_interfaces (table.interfaces_of id))

    pub super_kept : (x : ClassId) → kept x ≡ true → IfSome (superclass classes x) Kept
    super_kept x h = some_kept (superclass classes x) (superclass_there classes x) (supers_marked x h).0

    pub interfaces_kept : (x : ClassId) → kept x ≡ true → AllByRecursion Kept (interfaces classes x)
    interfaces_kept x h = all_kept (interfaces classes x) (interfaces_valid classes x) (supers_marked x h).1

    pub super_same : (x : ClassId) → kept x ≡ true → superclass out (moved x) ≡ option_map moved (superclass classes x)
    super_same (Prog n) h = ap (option_and_then (superclass_of out)) (class_at n (class_marked (Prog n) h))
        ∙ by (slice_get classes n) (super_kept (Prog n) h)
      where
        by : (o : Option Class) → IfSome (option_and_then (superclass_of classes) o) Kept
            → option_and_then (superclass_of out) (option_map (f n) o)
            ≡ option_map moved (option_and_then (superclass_of classes) o)
        by None k = refl
        by (Some c) k = named_moved c.super_name k
    super_same (Lib id) h = by (table.super_of id)
      where
        by : (o : Option ℕ) → option_map Lib o ≡ option_map moved (option_map Lib o)
        by None = refl
        by (Some id) = refl

    pub interfaces_same : (x : ClassId) → kept x ≡ true → interfaces out (moved x) ≡ map moved (interfaces classes x)
    interfaces_same (Prog n) h =
        ap (λ o. option_map_or (λ c. classes_named out c.interfaces) o []) (class_at n (class_marked (Prog n) h))
        ∙ by (slice_get classes n) (interfaces_kept (Prog n) h)
      where
        by : (o : Option Class) → AllByRecursion Kept (option_map_or (λ c. classes_named classes c.interfaces) o [])
            → option_map_or (λ c. classes_named out c.interfaces) (option_map (f n) o) []
            ≡ map moved (option_map_or (λ c. classes_named classes c.interfaces) o [])
        by None k = refl
        by (Some c) k = names_moved c.interfaces k
    interfaces_same (Lib id) h = by (table.interfaces_of id)
      where
        by : (ids : List ℕ) → filter_map (λ i. Some (Lib i)) ids ≡ map moved (filter_map (λ i. Some (Lib i)) ids)
        by [] = refl
        by (i ∷ ids) = ap (λ (t : List ClassId). Lib i ∷ t) (by ids)

  -- ---- members

  -- the rows of a class of which these are left
  abbrev rows_of : Option Class → List MemberRow
  rows_of o = option_map_or (λ (c : Class). map field_row c.fields ++ map method_row c.methods) o []

  pub row_same : (m : MemberAt) → kept_member m ≡ true → row_at out (moved_member m) ≡ row_at classes m
  row_same m h = by m.class m.index (class_marked m.class (class_of_kept m h)) (member_marked m h)
    where
      at : (n k : ℕ) (o : Option Class) → is_marked marks (class_item classes n + 1 + k) ≡ true
          → slice_get (rows_of (option_map (f n) o)) (rank (is_marked marks) (class_item classes n + 1) k)
          ≡ slice_get (rows_of o) k
      at n k None h = refl
      at n k (Some c) h = row_left marks (class_item classes n) c k h

      by : (x : ClassId) (k : ℕ) → is_class_marked classes marks x ≡ true → is_index_marked classes marks x k ≡ true
          → slice_get (rows_in out (moved x)) (index_place classes marks x k) ≡ slice_get (rows_in classes x) k
      by (Prog n) k class h =
          ap (λ o. slice_get (rows_of o) (rank (is_marked marks) (class_item classes n + 1) k)) (class_at n class)
          ∙ at n k (slice_get classes n) h
      by (Lib id) k class h = refl

  pub one_member : (m n : MemberAt) → kept_member m ≡ true → kept_member n ≡ true
      → same_member (moved_member m) (moved_member n) ≡ same_member m n
  one_member m n h k =
      ap (λ (t : Bool). t
      && eqb (index_place classes marks m.class m.index) (index_place classes marks n.class n.index))
      (one_class m.class n.class (class_of_kept m h) (class_of_kept n k))
      ∙ by m.class n.class m.index n.index (member_marked m h) (member_marked n k) (same_class m.class n.class) refl
    where
      by : (x y : ClassId) (i j : ℕ) → is_index_marked classes marks x i ≡ true
          → is_index_marked classes marks y j ≡ true → (s : Bool) → same_class x y ≡ s
          → (s && eqb (index_place classes marks x i) (index_place classes marks y j)) ≡ (s && eqb i j)
      by x y i j h k false e = refl
      by (Prog x) (Prog y) i j h k true e =
          let same : x ≡ y = eqb-true x y e in
          ap (λ (z : ℕ). eqb (rank (is_marked marks) (class_item classes x + 1) i)
          (rank (is_marked marks) (class_item classes z + 1) j)) (sym same)
          ∙ rank_same (is_marked marks) (class_item classes x + 1) i j h
          (ap (λ (z : ℕ). is_marked marks (class_item classes z + 1 + j)) same ∙ k)
      by (Prog x) (Lib y) i j h k true e = absurd cc
      by (Lib x) (Prog y) i j h k true e = absurd cc
      by (Lib x) (Lib y) i j h k true e = refl

  module _ (differ : AllMembersDiffer classes) where
    -- the number of a member in what is left
    abbrev if_index : ClassId → ℕ → Option ℕ
    if_index x k = cond (is_index_marked classes marks x k) (Some (index_place classes marks x k)) None

    declared_at_moved : (n : NameAndType) (x : ClassId) → kept x ≡ true
        → declared_at out (moved x) n.0 n.1 ≡ option_and_then (if_index x) (declared_at classes x n.0 n.1)
    declared_at_moved n (Prog t) h =
        ap (option_and_then (λ c. member_named c n.0 n.1)) (class_at t (class_marked (Prog t) h))
        ∙ by (slice_get classes t) refl
      where
        by : (o : Option Class) → slice_get classes t ≡ o
            → option_and_then (λ c. member_named c n.0 n.1) (option_map (f t) o)
            ≡ option_and_then (if_index (Prog t)) (option_and_then (λ c. member_named c n.0 n.1) o)
        by None e = refl
        by (Some c) e = named_left marks (class_item classes t) c (differ t c e) n.0 n.1
    declared_at_moved n (Lib id) h = by (declared_at classes (Lib id) n.0 n.1)
      where
        by : (o : Option ℕ) → o ≡ option_and_then (if_index (Lib id)) o
        by None = refl
        by (Some k) = refl

    -- a member that a kept class declares is kept where it is marked
    declared_kept : (n : NameAndType) (x : ClassId) (k : ℕ) → kept x ≡ true
        → declared_at classes x n.0 n.1 ≡ Some k
        → kept_member (at_index x k) ≡ is_index_marked classes marks x k
    declared_kept n x k h e =
        ap (λ (t : Bool). t && (is_index_there (at_index x k) && is_index_marked classes marks x k)) h
        ∙ ap (λ (t : Bool). t && is_index_marked classes marks x k)
        (lt-ltb k (length (rows_in classes x)) (declared_below classes x n.0 n.1 k e))

    pub declared_same : (n o : NameAndType) → Some n ≡ Some o → (x : ClassId) → kept x ≡ true
        → declared_in out o (moved x)
        ≡ option_and_then (if_kept kept_member moved_member) (declared_in classes n x)
    declared_same n o e x h =
        ap (λ (t : NameAndType). declared_in out t (moved x)) (let same : o ≡ n = cc in same)
        ∙ ap (option_map (at_index (moved x))) (declared_at_moved n x h)
        ∙ by (declared_at classes x n.0 n.1) refl
      where
        pick : (k : ℕ) (t : Bool) → option_map (at_index (moved x)) (cond t (Some (index_place classes marks x k)) None)
            ≡ cond t (Some (moved_member (at_index x k))) None
        pick k true = refl
        pick k false = refl

        by : (r : Option ℕ) → declared_at classes x n.0 n.1 ≡ r
            → option_map (at_index (moved x)) (option_and_then (if_index x) r)
            ≡ option_and_then (if_kept kept_member moved_member) (option_map (at_index x) r)
        by None e = refl
        by (Some k) e =
            pick k (is_index_marked classes marks x k)
            ∙ ap (λ (t : Bool). cond t (Some (moved_member (at_index x k))) None) (sym (declared_kept n x k h e))

    -- what is left is an image of the set
    abbrev pub shrunk_image : SupersMarked classes marks → ObjectKept classes marks → Image classes out
    shrunk_image up object = record {
      kept = kept;
      moved = moved;
      kept_member = kept_member;
      moved_member = moved_member;
      renamed = Some;
      same_moved = one_class;
      super_kept = super_kept up;
      super_moved = super_same up;
      interfaces_kept = interfaces_kept up;
      interfaces_moved = interfaces_same up;
      interface_moved = interface_same;
      public_moved = public_same;
      package_moved = package_same;
      object_kept = object;
      object_moved = named_moved (codes "java/lang/Object") object;
      class_kept = class_of_kept;
      class_moved = λ m. refl;
      same_member_moved = one_member;
      declared_moved = declared_same;
      flag_moved = λ g m h. ap (λ o. option_map_or (λ (row : MemberRow). has g row.flags) o false) (row_same m h);
      instance_moved = λ m h. ap (λ o. option_map_or is_instance_row o false) (row_same m h);
      name_moved = λ m h. sym (ap (λ o. Some (option_map_or (λ (row : MemberRow). row.named) o ([], [])))
          (row_same m h));
      init_moved = λ m h. ap (λ o. is_init (option_map_or (λ (row : MemberRow). row.named) o ([], [])).0)
          (row_same m h);
    }
