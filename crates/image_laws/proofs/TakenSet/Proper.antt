-- A set that is taken is a proper one.
use Rattle.std.proofs.Common.{◌≡◌, ◌<◌, ℕ, zero, suc, not, ◌&&◌, ◌||◌, Bool, true, false, List, []}
use Rattle.std.proofs.Common.{◌∷◌, length, Option, Some, None, Result, Ok, Err, slice_get, refl, sym, ap}
use Rattle.std.proofs.Common.{subst, ◌∙◌, arith}
use Rattle.std.specs.Prelude.{IfSome, codes}
use Rattle.std.specs.List.{AllByRecursion, cons_option, filter_map, flat_map, list_all, list_any}
use Rattle.std.specs.Option.{option_and_then, option_map, option_map_or}
use Rattle.std.proofs.lemmas.Bool.{and_parts, or_parts, not-false, not-true}
use Rattle.std.proofs.lemmas.Option.{get_or_from_slice_get, slice_get_within}
use Rattle.jv_base.specs.Names.{is_text}
use Rattle.jv_base.proofs.Lists.{all_append, all_at, all_filtered}
use Rattle.class_model.specs.Flags.{acc_abstract, acc_private, acc_protected, acc_public, acc_static, has, is_interface}
use Rattle.class_model.specs.declared.class.Class.{Class}
use Rattle.lib_table.specs.Lookups as table
use Rattle.lib_table.specs.declared.class.LibKind.{LibKind}
use Rattle.lib_table.specs.declared.class.LibKind.TheVariants.{Final, Interface, Open}
use Rattle.class_pool.specs.Faults.{classes_of, is_super_missing, is_super_wrong}
use Rattle.class_pool.specs.Faults.{is_wrong_interface, is_wrong_superclass, name_faults, super_fault, super_faults}
use Rattle.class_pool.specs.Faults.{then_super_faults}
use Rattle.class_pool.specs.Found.{MemberRow, NameAndType, declared_by, is_abstract_member}
use Rattle.class_pool.specs.Found.{is_instance_method, is_instance_row, is_private_member, row_at, rows_in}
use Rattle.class_pool.specs.Found.{same_package}
use Rattle.class_pool.specs.Hierarchy.{class_named, classes_named, interfaces, is_interface_kind, is_open_kind, kind_in}
use Rattle.class_pool.specs.Hierarchy.{superclass, superclass_of}
use Rattle.class_pool.specs.Members.{declared_at}
use Rattle.class_pool.specs.Resolution.{is_interface_in, is_open}
use Rattle.class_pool.specs.Selection.{may_be_overridden}
use Rattle.class_pool.specs.Walk.{highest, own_superinterfaces, superclasses_from, superinterfaces, walked}
use Rattle.class_pool.specs.declared.fault.NamedClass.{NamedClass}
use Rattle.class_pool.specs.declared.fault.PoolFault.{PoolFault}
use Rattle.class_pool.specs.declared.id.ClassId.{ClassId}
use Rattle.class_pool.specs.declared.id.ClassId.TheVariants.{Prog, Lib}
use Rattle.class_pool.specs.declared.id.MemberAt.{MemberAt}
use Rattle.class_pool.proofs.Counting.{classes_counted}
use Rattle.class_pool.proofs.FaultLaws.{none_at}
use Rattle.class_pool.proofs.ToldMembers.{declared_below}
use Rattle.class_pool.proofs.ObjectLaws.{free_name}
use Rattle.link_check.specs.Taken.{BreaksNoRule}
use Rattle.link_check.proofs.Taken.{links_taken}
use Rattle.image_laws.specs.SetImage.Image.{AreAbstract, IsProperSet}
use Rattle.image_laws.proofs.SetImage.MappedLists.{flat_kept}
use Rattle.image_laws.specs.TakenSet.TakenSet.{IsTaken}
use Rattle.image_laws.proofs.TakenSet.Flags.{one_access}
use Rattle.image_laws.proofs.TakenSet.LibraryRows.{interface_kinds, super_kind}
use Rattle.image_laws.proofs.TakenSet.Rows.{HasOneAccess, IsFixed, access_rows, fixed_rows}

-- ---- supertypes

-- both rounds have no fault
rounds : (files : List NamedClass) (r : Result (Unit {0}) PoolFault) → name_faults files ≡ r
    → then_super_faults files r ≡ Ok tt → (name_faults files ≡ Ok tt) × (super_faults (classes_of files) ≡ Ok tt)
rounds files (Ok t) e h = (e, h)
rounds files (Err f) e h = absurd cc

pub names_right : (classes : List Class) → (t : IsTaken classes) → name_faults t.files ≡ Ok tt
names_right classes t = (rounds t.files (name_faults t.files) refl t.built.0).0

supers_right : (classes : List Class) → IsTaken classes → super_faults classes ≡ Ok tt
supers_right classes t = subst (λ cs. super_faults cs ≡ Ok tt) (sym t.built.2)
    (rounds t.files (name_faults t.files) refl t.built.0).1

-- the supertypes of a class of the set are of their kinds
not_wrong : (classes : List Class) (n : ℕ) (c : Class) → super_faults classes ≡ Ok tt → slice_get classes n ≡ Some c
    → is_super_wrong classes c ≡ false
not_wrong classes n c right is =
    let none : super_fault classes c ≡ None =
    sym (ap (super_fault classes) (get_or_from_slice_get classes n c c is))
    ∙ none_at (λ (x : Class). x) (super_fault classes) classes n c right (slice_get_within classes n c is) in
    free_name (is_super_missing classes c) (is_super_wrong classes c) _ _ none

wrong_parts : (classes : List Class) (c : Class) → is_super_wrong classes c ≡ false
    → (is_wrong_superclass classes c ≡ false) × (list_any (is_wrong_interface classes) c.interfaces ≡ false)
wrong_parts classes c h =
    let outer = or_parts (is_wrong_superclass classes c || list_any (is_wrong_interface classes) c.interfaces)
    (is_interface c.flags.0 && not (is_text c.super_name (codes "java/lang/Object"))) h in
    let inner = or_parts (is_wrong_superclass classes c) (list_any (is_wrong_interface classes) c.interfaces) outer.0 in
    (inner.0, inner.1)

open_is : (k : LibKind) → is_open_kind k ≡ true → is_interface_kind k ≡ false
open_is Open h = refl
open_is Interface h = absurd cc
open_is Final h = absurd cc

module _ (classes : List Class) (right : super_faults classes ≡ Ok tt) where
  -- no superclass is an interface
  superclass_kind : (x y : ClassId) → superclass classes x ≡ Some y → is_interface_in classes y ≡ false
  superclass_kind (Prog n) y = by (slice_get classes n) refl
    where
      by : (o : Option Class) → slice_get classes n ≡ o → option_and_then (superclass_of classes) o ≡ Some y
          → is_interface_in classes y ≡ false
      by None is e = absurd cc
      by (Some c) is e =
          let wrong = (wrong_parts classes c (not_wrong classes n c right is)).0 in
          open_is (kind_in classes y) (not-false (is_open_kind (kind_in classes y))
          (sym (ap (λ o. option_map_or (λ id. not (is_open_kind (kind_in classes id))) o false) e) ∙ wrong))
  superclass_kind (Lib id) y = by (table.super_of id) refl
    where
      by : (o : Option ℕ) → table.super_of id ≡ o → option_map Lib o ≡ Some y → is_interface_in classes y ≡ false
      by None is e = absurd cc
      by (Some s) is e = let same : Lib s ≡ y = cc in
          subst (λ z. is_interface_in classes z ≡ false) same (super_kind id s is)

  -- each direct superinterface is one
  abbrev AllInterfaces : List ClassId → Type 0
  AllInterfaces xs = AllByRecursion (λ x. is_interface_in classes x ≡ true) xs

  named_kinds : (names : List (List ℕ)) → list_any (is_wrong_interface classes) names ≡ false
      → AllInterfaces (classes_named classes names)
  named_kinds [] h = tt
  named_kinds (name ∷ names) h =
      let parts = or_parts (is_wrong_interface classes name) (list_any (is_wrong_interface classes) names) h in
      by (class_named classes name) parts.0 (named_kinds names parts.1)
    where
      by : (o : Option ClassId)
          → option_map_or (λ id. not (is_interface_kind (kind_in classes id))) o false ≡ false
          → AllInterfaces (classes_named classes names)
          → AllInterfaces (cons_option o (classes_named classes names))
      by None h r = r
      by (Some y) h r = (not-false (is_interface_in classes y) h, r)

  library_kinds : (ids : List ℕ) → list_all (λ i. is_interface_kind (table.class_at i).kind) ids ≡ true
      → AllInterfaces (filter_map (λ i. Some (Lib i)) ids)
  library_kinds [] h = tt
  library_kinds (i ∷ ids) h =
      let parts = and_parts (is_interface_kind (table.class_at i).kind)
      (list_all (λ i. is_interface_kind (table.class_at i).kind) ids) h in
      (parts.0, library_kinds ids parts.1)

  interfaces_are : (x : ClassId) → AllInterfaces (interfaces classes x)
  interfaces_are (Prog n) = by (slice_get classes n) refl
    where
      by : (o : Option Class) → slice_get classes n ≡ o
          → AllInterfaces (option_map_or (λ c. classes_named classes c.interfaces) o [])
      by None is = tt
      by (Some c) is = named_kinds c.interfaces (wrong_parts classes c (not_wrong classes n c right is)).1
  interfaces_are (Lib id) = library_kinds (table.interfaces_of id) (interface_kinds id)

  -- and so is what stands above it
  walked_are : (n : ℕ) (xs : List ClassId) → AllInterfaces xs → AllInterfaces (walked n classes xs)
  unfolding walked
  walked_are zero xs h = tt
  walked_are (suc n) xs h =
      flat_kept (is_interface_in classes) (λ x. x) (λ i. i ∷ walked n classes (interfaces classes i)) xs h
      (λ y k. (k, walked_are n (interfaces classes y) (interfaces_are y)))

  all_superinterfaces : (x : ClassId) → AllInterfaces (superinterfaces classes x)
  all_superinterfaces x = each (superclasses_from classes x)
    where
      each : (xs : List ClassId) → AllInterfaces (flat_map (own_superinterfaces classes) xs)
      each [] = tt
      each (y ∷ ys) =
          all_append (λ z. is_interface_in classes z ≡ true) (own_superinterfaces classes y)
          (flat_map (own_superinterfaces classes) ys) (walked_are highest (interfaces classes y) (interfaces_are y))
          (each ys)

-- ---- members of interfaces

row_of : (rows : List MemberRow) (k : ℕ) → k < length rows → (row : MemberRow) × (slice_get rows k ≡ Some row)
row_of [] k low = absurd (omega (arith, low))
row_of (row ∷ rows) zero low = (row, refl)
row_of (row ∷ rows) (suc k) low = row_of rows k (omega (arith, low))

module _ (classes : List Class) (t : IsTaken classes) where
  right : BreaksNoRule classes
  right = links_taken classes t.linked

  abbrev IsAbstract : MemberAt → Type 0
  IsAbstract m = is_abstract_member classes m ≡ true

  -- an open member of an interface is abstract
  open_abstract : (n : NameAndType) (x : ClassId) (k : ℕ) → is_interface_in classes x ≡ true
      → declared_at classes x n.0 n.1 ≡ Some k → is_open classes (record { class = x; index = k }) ≡ true
      → IsAbstract (record { class = x; index = k })
  open_abstract n x k interface is open_member =
      let row = row_of (rows_in classes x) k (declared_below classes x n.0 n.1 k is) in
      let fixed = all_at IsFixed (rows_in classes x) k row.0 (fixed_rows classes t.formed right x interface) row.1 in
      let open_row : (not (has acc_private row.0.flags) && not (has acc_static row.0.flags)) ≡ true =
      sym (ap (λ o. not (option_map_or (λ (r : MemberRow). has acc_private r.flags) o false)
      && not (option_map_or (λ (r : MemberRow). has acc_static r.flags) o false)) row.1) ∙ open_member in
      ap (λ o. option_map_or (λ (r : MemberRow). has acc_abstract r.flags) o false) row.1
      ∙ (fixed (not-true (has acc_static row.0.flags)
      (and_parts (not (has acc_private row.0.flags)) (not (has acc_static row.0.flags)) open_row).1)).0

  declared_abstract : (n : NameAndType) (xs : List ClassId)
      → AllByRecursion (λ x. is_interface_in classes x ≡ true) xs
      → AllByRecursion (λ m. is_open classes m ≡ true → IsAbstract m) (declared_by classes n xs)
  declared_abstract n [] h = tt
  declared_abstract n (x ∷ xs) h = by (declared_at classes x n.0 n.1) refl (declared_abstract n xs h.1)
    where
      by : (o : Option ℕ) → declared_at classes x n.0 n.1 ≡ o
          → AllByRecursion (λ m. is_open classes m ≡ true → IsAbstract m) (declared_by classes n xs)
          → AllByRecursion (λ m. is_open classes m ≡ true → IsAbstract m)
          (cons_option (option_map (λ k. record { class = x; index = k }) o) (declared_by classes n xs))
      by None e r = r
      by (Some k) e r = (open_abstract n x k h.0 e, r)

  are_abstract : AreAbstract classes
  are_abstract x n =
      all_filtered IsAbstract (is_open classes) (declared_by classes n (superinterfaces classes x))
      (declared_abstract n (superinterfaces classes x) (all_superinterfaces classes (supers_right classes t) x))

  -- a row that is there has what all rows of its class have
  row_has : (P : MemberRow → Type 0) (m : MemberAt) → AllByRecursion P (rows_in classes m.class)
      → IfSome (row_at classes m) P
  row_has P m all = by (row_at classes m) refl
    where
      by : (o : Option MemberRow) → row_at classes m ≡ o → IfSome o P
      by None is = tt
      by (Some row) is = all_at P (rows_in classes m.class) m.index row all is

  -- no method is private and may be overridden
  access_apart : (x : ClassId) (m : MemberAt) → may_be_overridden classes x m ≡ true
      → is_private_member classes m ≡ false
  access_apart x m h = by (row_at classes m) (row_has HasOneAccess m (access_rows classes t.formed m.class)) h
    where
      never : (i g : Bool) → (i && (false || false || (not true && g))) ≡ true → ⊥
      never true g e = cc
      never false g e = cc

      at : (row : MemberRow) → HasOneAccess row → (p : Bool) → has acc_private row.flags ≡ p
          → (is_instance_row row && (has acc_public row.flags || has acc_protected row.flags
          || (not p && same_package classes x m.class))) ≡ true
          → p ≡ false
      at row one false e k = refl
      at row one true e k = absurd
          (let alone = one_access row.flags one e in
          never (is_instance_row row) (same_package classes x m.class)
          (sym (ap (λ (b : Bool). is_instance_row row
          && (b || has acc_protected row.flags || (not true && same_package classes x m.class))) alone.0
          ∙ ap (λ (b : Bool). is_instance_row row && (false || b || (not true && same_package classes x m.class)))
          alone.1) ∙ k))

      by : (o : Option MemberRow) → IfSome o HasOneAccess
          → (option_map_or is_instance_row o false
          && (option_map_or (λ (r : MemberRow). has acc_public r.flags) o false
          || option_map_or (λ (r : MemberRow). has acc_protected r.flags) o false
          || (not (option_map_or (λ (r : MemberRow). has acc_private r.flags) o false)
          && same_package classes x m.class))) ≡ true
          → option_map_or (λ (r : MemberRow). has acc_private r.flags) o false ≡ false
      by None one k = refl
      by (Some row) one k = at row one (has acc_private row.flags) refl k

  pub is_proper : IsProperSet classes
  is_proper = record {
    ranks = t.ranks;
    few = let counted = classes_counted classes in let less = t.few in omega (arith, counted, less);
    abstract_methods = are_abstract;
    superclasses = superclass_kind classes (supers_right classes t);
    apart = access_apart;
  }

  -- no instance method of an interface is private
  pub open_interfaces : (m : MemberAt) → is_interface_in classes m.class ≡ true → is_instance_method classes m ≡ true
      → is_private_member classes m ≡ false
  open_interfaces m interface instance =
      by (row_at classes m) (row_has IsFixed m (fixed_rows classes t.formed right m.class interface)) instance
    where
      static_of : (s q i : Bool) → (q && not s && not i) ≡ true → s ≡ false
      static_of false q i h = refl
      static_of true true i h = absurd cc
      static_of true false i h = absurd cc

      by : (o : Option MemberRow) → IfSome o IsFixed → option_map_or is_instance_row o false ≡ true
          → option_map_or (λ (r : MemberRow). has acc_private r.flags) o false ≡ false
      by None fixed k = refl
      by (Some row) fixed k = (fixed (static_of (has acc_static row.flags) row.is_method _ k)).1
