-- Which class declares what a class finds, and what implements the methods of an interface (JVMS 5.4.3.3, 5.4.3.4).
use Rattle.std.proofs.Common.{◌≡◌, ◌<◌, ◌+◌, ◌&&◌, ◌||◌, ◌++◌, ℕ, zero, suc, not, Bool, true, false, cond, List, []}
use Rattle.std.proofs.Common.{◌∷◌, length, map, Option, Some, None, slice_get, refl, sym, ap, subst, ◌∙◌, arith}
use Rattle.std.specs.Prelude.{IfSome, IsTrue}
use Rattle.std.specs.List.{All, AllByRecursion, cons_option, enumerate_from, filter, filter_map, find, flat_map}
use Rattle.std.specs.List.{list_all}
use Rattle.std.specs.Option.{option_and_then, option_map, option_map_or, option_or}
use Rattle.std.proofs.lemmas.List.Elements.{All-cons, All-nil}
use Rattle.jv_base.proofs.Lists.{all_at, all_weaker, any_where, found_at, got_mapped, nil_parts}
use Rattle.class_model.specs.Flags.{acc_abstract, acc_static, has, is_left_out_class}
use Rattle.class_model.specs.declared.class.Class.{Class}
use Rattle.lib_table.specs.Library.{LibraryMember, library}
use Rattle.lib_table.specs.Lookups as table
use Rattle.class_pool.specs.Found.{MemberRow, NameAndType, declared_by, declared_in, is_instance_method}
use Rattle.class_pool.specs.Found.{is_instance_row}
use Rattle.class_pool.specs.Found.{is_method_at, is_public_member, is_static_member, role_at}
use Rattle.class_pool.specs.Found.{rows_in}
use Rattle.class_pool.specs.Hierarchy.{IsClass, interfaces, is_interface_kind}
use Rattle.class_pool.specs.Resolution.{first, first_declared, is_open}
use Rattle.class_pool.specs.Resolution.{method_found, object_method}
use Rattle.class_pool.specs.Selection.{selected}
use Rattle.class_pool.specs.Supertypes.{IsClosed}
use Rattle.class_pool.specs.Walk.{same_class, superinterfaces, upwards, walked}
use Rattle.class_pool.specs.bodies.Graph.{library_ids}
use Rattle.class_pool.specs.declared.id.ClassId.{ClassId}
use Rattle.class_pool.specs.declared.id.ClassId.TheVariants.{Prog, Lib}
use Rattle.class_pool.specs.declared.id.MemberAt.{MemberAt}
use Rattle.class_pool.proofs.EachOnce.{same_is}
use Rattle.class_pool.proofs.Within.{In, in_first, in_next}
use Rattle.link_check.specs.Links.{is_callable_role}
use Rattle.link_check.specs.Profile.{implementing_kinds, is_abstract_class, left_out_at, methods_of, name_kinds}
use Rattle.link_check.specs.Profile.{selected_kinds, unless}
use Rattle.link_check.specs.declared.fault.ProfileKind.TheVariants.{LeftOutFlag, LeftOutMember}
use Rattle.link_check.proofs.Taken.{links_taken}
use Rattle.image_laws.specs.TakenSet.TakenSet.{IsTaken}
use Rattle.image_laws.proofs.TakenSet.Names.{object_named}
use Rattle.image_laws.proofs.TakenSet.Rows.{none_each}
use Rattle.image_laws.proofs.ViewImage.Standing.{filter_all, find_all}
use Rattle.type_sound.proofs.FieldMeaning.{declared_of}
use Rattle.type_sound.proofs.Links.{unbroken}
use Rattle.type_sound.proofs.RowTable.{InTable, in_table, table_row}
use Rattle.type_sound.proofs.Selecting.{at_member, declared_class}
use Rattle.type_sound.proofs.TargetRuns.{static_flag}

-- no member of an interface of the library is static
rows_instance : list_all (λ id. list_all (λ (m : LibraryMember). not (is_interface_kind (table.class_at id).kind)
    || not m.is_static) (table.class_at id).members) library_ids ≡ true
unfolding library
rows_instance = refl

-- what holds of all holds of the first
head_of : {A : Type 0} (P : A → Type 0) (xs : List A) (x : A) → AllByRecursion P xs → first xs ≡ Some x → P x
head_of P [] x h e = absurd cc
head_of P (y ∷ ys) x h e = let same : y ≡ x = cc in subst P same h.0

-- what holds of all that pass holds of each that passes
kept_at : {A : Type 0} (P : A → Type 0) (test : A → Bool) (xs : List A) (k : ℕ) (x : A)
    → AllByRecursion P (filter test xs) → slice_get xs k ≡ Some x → test x ≡ true → P x
kept_at P test [] k x h at passes = absurd cc
kept_at {A} P test (y ∷ ys) zero x h at passes =
    let same : y ≡ x = cc in
    let front : cond (test y) (y ∷ filter test ys) (filter test ys) ≡ y ∷ filter test ys =
    ap (λ b. cond b (y ∷ filter test ys) (filter test ys)) (ap test same ∙ passes) in
    subst P same (subst (λ (zs : List A). AllByRecursion P zs) front h).0
kept_at {A} P test (y ∷ ys) (suc k) x h at passes = kept_at P test ys k x (by (test y) h) at passes where
  by : (b : Bool) → AllByRecursion P (cond b (y ∷ filter test ys) (filter test ys)) → AllByRecursion P (filter test ys)
  by true q = q.1
  by false q = q

-- the places of a list by their numbers
numbered_at : {A : Type 0} (n : ℕ) (xs : List A) (k : ℕ) (x : A) → slice_get xs k ≡ Some x
    → slice_get (enumerate_from n xs) k ≡ Some (n + k, x)
numbered_at n [] k x at = absurd cc
numbered_at n (y ∷ ys) zero x at =
    let same : y ≡ x = cc in
    let e : n ≡ n + 0 = omega arith in
    ap (λ z. Some (n, z)) same ∙ ap (λ j. Some (j, x)) e
numbered_at n (y ∷ ys) (suc k) x at =
    let e : n + 1 + k ≡ n + suc k = omega arith in
    numbered_at (n + 1) ys k x at ∙ ap (λ j. Some (j, x)) e

numbered : {A : Type 0} (xs : List A) (k : ℕ) (x : A) → slice_get xs k ≡ Some x
    → slice_get (enumerate_from 0 xs) k ≡ Some (k, x)
numbered xs k x at = let e : 0 + k ≡ k = omega arith in numbered_at 0 xs k x at ∙ ap (λ j. Some (j, x)) e

-- a class of the library
abbrev pub is_lib : ClassId → Bool
is_lib (Prog n) = false
is_lib (Lib id) = true

module _ (classes : List Class) (t : IsTaken classes) where
  -- above such a class there are such classes alone
  pub library_closed : IsClosed classes is_lib
  library_closed (Prog n) h = absurd cc
  library_closed (Lib id) h = by (table.super_of id) where
    libs : (ids : List ℕ) → All (λ b. IsTrue (is_lib b)) (filter_map (λ i. Some (Lib i)) ids)
    libs [] = All-nil (λ b. IsTrue (is_lib b))
    libs (i ∷ is) = All-cons (λ b. IsTrue (is_lib b)) (Lib i) (filter_map (λ j. Some (Lib j)) is) refl (libs is)

    by : (o : Option ℕ)
        → All (λ b. IsTrue (is_lib b)) (cons_option (option_map Lib o) (interfaces classes (Lib id)))
    by None = libs (table.interfaces_of id)
    by (Some s) = All-cons (λ b. IsTrue (is_lib b)) (Lib s) (interfaces classes (Lib id)) refl
        (libs (table.interfaces_of id))

  -- ---- where it is declared

  each_in : (cs : List ClassId) → AllByRecursion (λ c. In c cs) cs
  each_in [] = tt
  each_in (c ∷ cs) = (
    in_first c cs,
    all_weaker (λ d. In d cs) (λ d. In d (c ∷ cs)) (λ d h. in_next d c cs h) cs (each_in cs),
  )

  pub declared_in_list : (n : NameAndType) (cs : List ClassId) (m : MemberAt) → first_declared classes n cs ≡ Some m
      → In m.class cs
  declared_in_list n cs m e = head_of (λ (z : MemberAt). In z.class cs) (declared_by classes n cs) m
      (declared_of classes t (λ c. In c cs) n cs (each_in cs)) e

  pub open_in_list : (n : NameAndType) (cs : List ClassId) (m : MemberAt)
      → first (filter (is_open classes) (declared_by classes n cs)) ≡ Some m → In m.class cs
  open_in_list n cs m e = head_of (λ (z : MemberAt). In z.class cs)
      (filter (is_open classes) (declared_by classes n cs)) m
      (filter_all classes (λ (z : MemberAt). In z.class cs) (is_open classes) (declared_by classes n cs)
      (declared_of classes t (λ c. In c cs) n cs (each_in cs))) e

  -- a method that Object has for interfaces is one of it (JVMS 5.4.3.4)
  pub object_found : (n : NameAndType) (m : MemberAt) → object_method classes n ≡ Some m → m.class ≡ Lib 0
  object_found n m e = subst (λ o. IfSome o (λ (z : MemberAt). z.class ≡ Lib 0))
      (sym (ap (λ o. of_object o) (object_named classes t)) ∙ e)
      (find_all classes (λ (z : MemberAt). z.class ≡ Lib 0)
      (λ z. is_public_member classes z && not (is_static_member classes z)) (declared_by classes n (Lib 0 ∷ []))
      (declared_of classes t (λ c. c ≡ Lib 0) n (Lib 0 ∷ []) (refl, tt)))
    where
      of_object : Option ClassId → Option MemberAt
      of_object o = option_and_then
          (λ object. find (λ z. is_public_member classes z && not (is_static_member classes z))
          (declared_by classes n (object ∷ []))) o

  -- ---- static members of the library

  pub static_class : (id k : ℕ) → id < length library
      → is_method_at classes (record { class = Lib id; index = k }) ≡ true
      → is_static_member classes (record { class = Lib id; index = k }) ≡ true
      → is_interface_kind (table.class_at id).kind ≡ false
  static_class id k low method static =
      by (is_interface_kind (table.class_at id).kind) e.member.is_static is_static_there
      (at_member classes t (λ i (m : LibraryMember). not (is_interface_kind (table.class_at i).kind)
      || not m.is_static) rows_instance id k low e)
    where
      e : InTable id k
      e = in_table classes id k method

      is_static_there : e.member.is_static ≡ true
      is_static_there = sym (static_flag (table.class_at id).kind e.member)
          ∙ sym (ap (λ o. option_map_or (λ (r : MemberRow). has acc_static r.flags) o false)
          (table_row classes id k e)) ∙ static

      by : (a b : Bool) → b ≡ true → (not a || not b) ≡ true → a ≡ false
      by true true p h = absurd cc
      by true false p h = absurd cc
      by false b p h = refl

  -- ---- what implements methods of interfaces

  -- A class of the set that isn't abstract has only methods that may be called where its superinterfaces' are called.
  pub implementing : (n : ℕ) → IsClass classes (Prog n) → is_abstract_class classes (Prog n) ≡ false → (m : MemberAt)
      → (k : ℕ) → m.class ≡ Prog k → is_instance_method classes m ≡ true
      → In m.class (superinterfaces classes (Prog n)) → (s : MemberAt) → selected classes (Prog n) m ≡ Some s
      → is_callable_role (role_at s) ≡ true
  implementing n there concrete m k is instance above s e = unbroken (is_callable_role (role_at s)) LeftOutMember
      (sym (ap (λ o. option_map_or (λ one. unless (is_callable_role (role_at one)) LeftOutMember) o []) e) ∙ none)
    where
      c : (c : Class) × (slice_get classes n ≡ Some c)
      c = found_at classes n there

      rules : implementing_kinds classes n c.0 ≡ []
      rules = (nil_parts (left_out_at c.0.left_out None ++ unless (not (is_left_out_class c.0.flags.0)) LeftOutFlag
          ++ flat_map (name_kinds classes n) (c.0.super_name ∷ c.0.interfaces)) (implementing_kinds classes n c.0)
          ((links_taken classes t.linked).class n c.0 c.1)).1

      all : flat_map (λ i. flat_map (selected_kinds classes n) (methods_of classes i))
          (superinterfaces classes (Prog n))
          ≡ []
      all = sym (ap (λ b. cond b []
          (flat_map (λ i. flat_map (selected_kinds classes n) (methods_of classes i))
          (superinterfaces classes (Prog n))))
          (sym (ap (λ o. option_map_or (λ (x : Class). has acc_abstract x.flags.0) o false) c.1) ∙ concrete)) ∙ rules

      place : (j : ℕ) × (x : ClassId) × (slice_get (superinterfaces classes (Prog n)) j ≡ Some x)
          × (same_class m.class x ≡ true)
      place = any_where (same_class m.class) (superinterfaces classes (Prog n)) above

      here : flat_map (selected_kinds classes n) (methods_of classes (Prog k)) ≡ []
      here = subst (λ i. flat_map (selected_kinds classes n) (methods_of classes i) ≡ [])
          (sym (same_is m.class place.1 place.3) ∙ is)
          (all_at (λ i. flat_map (selected_kinds classes n) (methods_of classes i) ≡ [])
          (superinterfaces classes (Prog n)) place.0 place.1
          (none_each (λ i. flat_map (selected_kinds classes n) (methods_of classes i))
          (superinterfaces classes (Prog n)) all) place.2)

      at : MemberAt
      at = record { class = Prog k; index = m.index }

      same : m ≡ record { class = Prog k; index = m.index }
      same = ap (λ x. record { class = x; index = m.index }) is

      row : (o : Option MemberRow) → slice_get (rows_in classes (Prog k)) m.index ≡ o
          → option_map_or is_instance_row o false ≡ true
          → (r : MemberRow) × (slice_get (rows_in classes (Prog k)) m.index ≡ Some r)
      row None q h = absurd cc
      row (Some r) q h = (r, q)

      its_row : (r : MemberRow) × (slice_get (rows_in classes (Prog k)) m.index ≡ Some r)
      its_row = row (slice_get (rows_in classes (Prog k)) m.index) refl
          (subst (λ z. is_instance_method classes z ≡ true) same instance)

      none : selected_kinds classes n m ≡ []
      none = subst (λ z. selected_kinds classes n z ≡ []) (sym same)
          (kept_at (λ z. selected_kinds classes n z ≡ []) (is_instance_method classes)
          (map (λ p. record { class = Prog k; index = p.0 }) (enumerate_from 0 (rows_in classes (Prog k)))) m.index
          (record { class = Prog k; index = m.index })
          (none_each (selected_kinds classes n) (methods_of classes (Prog k)) here)
          (got_mapped (λ p. record { class = Prog k; index = p.0 }) (enumerate_from 0 (rows_in classes (Prog k)))
          m.index
          (m.index, its_row.0) (numbered (rows_in classes (Prog k)) m.index its_row.0 its_row.1))
          (subst (λ z. is_instance_method classes z ≡ true) same instance))

  -- ---- methods that arrays have

  -- Object and the interfaces that arrays are of
  abbrev FoundAt : ℕ → Type 0
  FoundAt id = (n : NameAndType) (m : MemberAt) → method_found classes (Lib id) n ≡ Some m → m.class ≡ Lib 0

  pub found_zero : FoundAt 0
  unfolding library upwards walked
  found_zero n m e = by (declared_in classes n (Lib 0)) refl e where
    by : (o : Option MemberAt) → declared_in classes n (Lib 0) ≡ o → option_or (first (cons_option o [])) None ≡ Some m
        → m.class ≡ Lib 0
    by None q h = absurd cc
    by (Some z) q h = declared_class classes t n (Lib 0) m (q ∙ h)

  of_interface : (n : NameAndType) (m : MemberAt) → option_or None (option_or (object_method classes n) None) ≡ Some m
      → m.class ≡ Lib 0
  of_interface n m e = by (object_method classes n) refl e where
    by : (o : Option MemberAt) → object_method classes n ≡ o → option_or o None ≡ Some m → m.class ≡ Lib 0
    by None q h = absurd cc
    by (Some z) q h = object_found n m (q ∙ h)

  pub found_four : FoundAt 4
  unfolding library upwards walked
  found_four n m e = of_interface n m e

  pub found_five : FoundAt 5
  unfolding library upwards walked
  found_five n m e = of_interface n m e
