-- Where a set is closed, the method that a call runs is in it.
use Rattle.std.proofs.Common.{◌≡◌, ℕ, zero, suc, ◌+◌, not, ◌&&◌, ◌||◌, Bool, true, false, cond, List, [], ◌∷◌, ◌++◌}
use Rattle.std.proofs.Common.{map, Option, Some, None, slice_get, refl, sym, ap, subst, ◌∙◌, arith}
use Rattle.std.specs.Prelude.{IfSome, IsTrue}
use Rattle.std.specs.List.{AllByRecursion, enumerate_from, filter, filter_map, flat_map, list_any}
use Rattle.std.specs.Option.{is_some, option_and_then, option_map, option_map_or}
use Rattle.jv_base.proofs.Lists.{all_split}
use Rattle.mark_core.specs.declared.system.Pair.{Pair}
use Rattle.mark_core.specs.Marks.{Closed}
use Rattle.class_model.specs.Flags.{acc_final, has, is_interface}
use Rattle.class_model.specs.declared.class.Class.{Class}
use Rattle.lib_table.specs.declared.class.LibKind.TheVariants.{Final, Interface, Open}
use Rattle.class_pool.specs.Found.{MemberRow, field_row, is_instance_method, is_instance_row, is_private_member, row_at}
use Rattle.class_pool.specs.Found.{rows_in, method_row, same_member}
use Rattle.class_pool.specs.Hierarchy.{is_interface_kind, kind_of}
use Rattle.class_pool.specs.Items.{class_item, item_in, item_of}
use Rattle.class_pool.specs.Resolution.{is_interface_in}
use Rattle.class_pool.specs.Selection.{selected}
use Rattle.class_pool.specs.Supers.{is_below}
use Rattle.class_pool.specs.Walk.{same_class, superclasses_from, superinterfaces, supers}
use Rattle.class_pool.specs.declared.id.ClassId.{ClassId}
use Rattle.class_pool.specs.declared.id.ClassId.TheVariants.{Prog, Lib}
use Rattle.class_pool.specs.declared.id.MemberAt.{MemberAt}
use Rattle.class_pool.proofs.Among.{among_once, member_is}
use Rattle.class_pool.proofs.EachOnce.{same_is, same_itself}
use Rattle.require_sys.specs.Closing.{is_in}
use Rattle.require_sys.specs.Requires.{Item, OfMember, called_wants, class_pairs, initialisation_wants}
use Rattle.require_sys.specs.Requires.{instance_methods, is_inheritable, is_program, library_supers, members_of}
use Rattle.require_sys.specs.Requires.{methods_above, pair_from, pair_of, program_supers, requires, rule_wants}
use Rattle.require_sys.specs.Requires.{super_wants}
use Rattle.require_sys.specs.declared.kept.KeptByRules.{KeptByRules}
use Rattle.require_sys.proofs.Closing.{class_in}
use Rattle.require_sys.proofs.Parts.{all_among, all_enumerated, all_filter, all_filter_map, all_flat_map}
use Rattle.require_sys.proofs.Parts.{all_map, from_all}

-- ---- members

-- what holds of the members of a class holds of one that is there
pub member_among : (classes : List Class) (P : MemberAt → Type 0) (m : MemberAt)
    → AllByRecursion P (members_of classes m.class) → is_instance_method classes m ≡ true → P m
member_among classes P m all instance =
    there (row_at classes m) refl instance
    (λ row e. all_enumerated (λ (p : ℕ × MemberRow). P (record { class = m.class; index = p.0 })) 0
    (rows_in classes m.class) m.index row
    (all_map P (λ (p : ℕ × MemberRow). record { class = m.class; index = p.0 })
    (enumerate_from 0 (rows_in classes m.class)) all) e)
  where
    there : (o : Option MemberRow) → row_at classes m ≡ o → option_map_or is_instance_row o false ≡ true
        → ((row : MemberRow) → row_at classes m ≡ Some row → P (record { class = m.class; index = 0 + m.index }))
        → P m
    there None e h r = absurd cc
    there (Some row) e h r =
        let start : 0 + m.index ≡ m.index = omega arith in
        subst (λ (k : ℕ). P (record { class = m.class; index = k })) start (r row e)

-- what holds of the methods of some classes that pass a test holds of one of those of a class among them
method_among : (classes : List Class) (P : MemberAt → Type 0) (test : MemberAt → Bool) (xs : List ClassId)
    (m : MemberAt) → AllByRecursion P (filter test (flat_map (members_of classes) xs))
    → list_any (same_class m.class) xs ≡ true → is_instance_method classes m ≡ true → test m ≡ true → P m
method_among classes P test xs m all among instance passes =
    member_among classes (λ z. test z ≡ true → P z) m
    (all_among (λ y. AllByRecursion (λ z. test z ≡ true → P z) (members_of classes y)) m.class xs
    (all_flat_map (λ z. test z ≡ true → P z) (members_of classes) xs
    (all_filter P test (flat_map (members_of classes) xs) all)) among) instance passes

-- ---- classes

-- a class among those that pass a test
among_filter : (test : ClassId → Bool) (y : ClassId) (xs : List ClassId) → list_any (same_class y) xs ≡ true
    → test y ≡ true → list_any (same_class y) (filter test xs) ≡ true
among_filter test y [] among passes = absurd cc
among_filter test y (x ∷ xs) among passes =
    by (same_class y x) refl (test x) refl among (λ h. among_filter test y xs h passes)
  where
    by : (b : Bool) → same_class y x ≡ b → (t : Bool) → test x ≡ t → (b || list_any (same_class y) xs) ≡ true
        → (list_any (same_class y) xs ≡ true → list_any (same_class y) (filter test xs) ≡ true)
        → list_any (same_class y) (cond t (x ∷ filter test xs) (filter test xs)) ≡ true
    by true b true t e r = ap (λ (u : Bool). u || list_any (same_class y) (filter test xs)) b
    by true b false t e r = absurd
        (let same : y ≡ x = same_is y x b in
        let q : true ≡ false = sym passes ∙ ap test same ∙ t in
        cc)
    by false b true t e r =
        ap (λ (u : Bool). u || list_any (same_class y) (filter test xs)) b ∙ r e
    by false b false t e r = r e

-- a class of the program that is there is among all of them
among_all : (s : ℕ) (classes : List Class) (n : ℕ) (c : Class) → slice_get classes n ≡ Some c
    → list_any (same_class (Prog (s + n))) (map (λ p. Prog p.0) (enumerate_from s classes)) ≡ true
among_all s [] n c is = absurd cc
among_all s (d ∷ cs) zero c is =
    let start : s + zero ≡ s = omega arith in
    ap (λ (k : ℕ). same_class (Prog k) (Prog s) || list_any (same_class (Prog (s + zero)))
    (map (λ p. Prog p.0) (enumerate_from (s + 1) cs))) start
    ∙ ap (λ (u : Bool). u || list_any (same_class (Prog (s + zero))) (map (λ p. Prog p.0) (enumerate_from (s + 1) cs)))
    (same_itself (Prog s))
among_all s (d ∷ cs) (suc n) c is =
    let next : s + 1 + n ≡ s + suc n = omega arith in
    by (same_class (Prog (s + suc n)) (Prog s)) (map (λ p. Prog p.0) (enumerate_from (s + 1) cs))
    (subst (λ (k : ℕ). list_any (same_class (Prog k)) (map (λ p. Prog p.0) (enumerate_from (s + 1) cs)) ≡ true) next
    (among_all (s + 1) cs n c is))
  where
    by : (b : Bool) (xs : List ClassId) → list_any (same_class (Prog (s + suc n))) xs ≡ true
        → (b || list_any (same_class (Prog (s + suc n))) xs) ≡ true
    by true xs h = refl
    by false xs h = h

-- a proper supertype is one of those listed
is_listed : (classes : List Class) (x y : ClassId) → is_below classes x y ≡ true → same_class x y ≡ false
    → list_any (same_class y) (supers classes x) ≡ true
is_listed classes x y below other =
    among_once y (x ∷ []) (superclasses_from classes x ++ superinterfaces classes x) below
    (ap (λ (t : Bool). t || false) (turned (same_class y x) refl))
  where
    turned : (t : Bool) → same_class y x ≡ t → t ≡ false
    turned true e = absurd
        (let same : y ≡ x = same_is y x e in
        let q : same_class x y ≡ true =
        ap (same_class x) same ∙ ap (λ (z : ClassId). same_class z x) (sym same) ∙ e in
        let r : true ≡ false = sym q ∙ other in
        cc)
    turned false e = refl

class_flag : (classes : List Class) (n : ℕ) (c : Class) → slice_get classes n ≡ Some c
    → is_interface_in classes (Prog n) ≡ false → is_interface c.flags.0 ≡ false
class_flag classes n c is class =
    by (is_interface c.flags.0) refl (sym (ap (λ o. is_interface_kind (option_map_or kind_of o Open)) is) ∙ class)
  where
    by : (t : Bool) → is_interface c.flags.0 ≡ t → is_interface_kind (kind_of c) ≡ false → t ≡ false
    by true e h = absurd
        (let q : true ≡ false =
        sym (ap (λ (b : Bool). is_interface_kind (cond b Interface (cond (has acc_final c.flags.0) Final Open))) e)
        ∙ h in
        cc)
    by false e h = refl

-- the program class of an instance method is there
pub program_there : (classes : List Class) (n index : ℕ)
    → is_instance_method classes (record { class = Prog n; index = index }) ≡ true
    → (c : Class) × (slice_get classes n ≡ Some c)
program_there classes n index instance = by (slice_get classes n) refl instance
  where
    by : (o : Option Class) → slice_get classes n ≡ o
        → is_instance_method classes (record { class = Prog n; index = index }) ≡ true
        → (c : Class) × (slice_get classes n ≡ Some c)
    by None e h = absurd
        (let q : true ≡ false = sym h ∙ ap (λ (o : Option Class). option_map_or is_instance_row
        (slice_get (option_map_or (λ d. map field_row d.fields ++ map method_row d.methods) o []) index) false) e in
        cc)
    by (Some c) e h = (c, e)

is_above : (classes : List Class) (x y : ClassId) (index : ℕ) → is_program y ≡ true
    → is_instance_method classes (record { class = y; index = index }) ≡ true
    → is_below classes x y ≡ true → same_class x y ≡ false
    → list_any (same_class y) (program_supers classes x) ≡ true
is_above classes x (Lib id) index program instance below other = absurd cc
is_above classes x (Prog n) index program instance below other =
    let there = program_there classes n index instance in
    let start : 0 + n ≡ n = omega arith in
    among_filter (λ y. is_below classes x y && not (same_class x y)) (Prog n)
    (map (λ p. Prog p.0) (enumerate_from 0 classes))
    (subst (λ (k : ℕ). list_any (same_class (Prog k)) (map (λ p. Prog p.0) (enumerate_from 0 classes)) ≡ true) start
    (among_all 0 classes n there.0 there.1))
    (ap (λ (t : Bool). t && not (same_class x (Prog n))) below ∙ ap not other)

-- ---- the rules

module _ (classes : List Class) (kept : KeptByRules) (set : ℕ → Bool)
    (closed : Closed (requires classes kept) set) where
  abbrev MemberIn : MemberAt → Type 0
  MemberIn s = is_in classes set (OfMember s) ≡ true

  abbrev ItemIn : Item → Type 0
  ItemIn x = is_in classes set x ≡ true

  abbrev called : ℕ → MemberAt → Option Item
  called n m = option_map OfMember (selected classes (Prog n) m)

  abbrev paired : ℕ → MemberAt → Option Pair
  paired n m = option_and_then (pair_of classes (Prog n) m) (selected classes (Prog n) m)

  abbrev IsMet : Pair → Type 0
  IsMet pair = IsTrue (set pair.one) → IsTrue (set pair.two) → IsTrue (set pair.derived)

  -- third rule
  called_by_library : (n : ℕ) (c : Class) (m : MemberAt) → slice_get classes n ≡ Some c
      → set (class_item classes n) ≡ true → is_interface c.flags.0 ≡ false
      → list_any (same_class m.class) (supers classes (Prog n)) ≡ true → is_program m.class ≡ false
      → is_instance_method classes m ≡ true → IfSome (selected classes (Prog n) m) MemberIn
  called_by_library n c m is h class among library instance =
      let all = class_in classes kept set closed n c is h in
      let one = (all_split ItemIn (super_wants classes c)
      (initialisation_wants classes n ++ (rule_wants classes kept n ++ called_wants classes n c)) all).1 in
      let two = (all_split ItemIn (initialisation_wants classes n)
      (rule_wants classes kept n ++ called_wants classes n c) one).1 in
      let three = (all_split ItemIn (rule_wants classes kept n) (called_wants classes n c) two).1 in
      let four = subst
      (λ (t : Bool). AllByRecursion ItemIn
      (cond t [] (filter_map (called n)
      (instance_methods classes (library_supers classes (Prog n)))))) class three in
      let five = all_filter_map ItemIn (called n)
      (instance_methods classes (library_supers classes (Prog n))) four in
      some (selected classes (Prog n) m)
      (method_among classes (λ m. IfSome (called n m) ItemIn)
      (is_instance_method classes) (library_supers classes (Prog n)) m five
      (among_filter (λ y. not (is_program y)) m.class (supers classes (Prog n)) among (ap not library))
      instance instance)
    where
      some : (o : Option MemberAt) → IfSome (option_map OfMember o) ItemIn → IfSome o MemberIn
      some None h = tt
      some (Some s) h = h

  -- seventh rule
  called_by_program : (n : ℕ) (c : Class) (m : MemberAt) → slice_get classes n ≡ Some c
      → set (class_item classes n) ≡ true → is_interface c.flags.0 ≡ false → MemberIn m
      → list_any (same_class m.class) (program_supers classes (Prog n)) ≡ true → is_program m.class ≡ true
      → is_instance_method classes m ≡ true → is_private_member classes m ≡ false
      → IfSome (selected classes (Prog n) m) MemberIn
  called_by_program n c m is h class k among program instance open_method =
      let start : 0 + n ≡ n = omega arith in
      let of_class = all_enumerated (λ p. AllByRecursion IsMet (class_pairs classes p)) 0 classes n c
      (all_flat_map IsMet (class_pairs classes) (enumerate_from 0 classes) (from_all IsMet _ closed.pairs)) is in
      let here = subst (λ (i : ℕ). AllByRecursion IsMet (class_pairs classes (i, c))) start of_class in
      let pairs = subst (λ (t : Bool). AllByRecursion IsMet
      (cond t [] (filter_map (paired n) (methods_above classes (Prog n))))) class here in
      some (selected classes (Prog n) m)
      (method_among classes (λ m. IfSome (paired n m) IsMet) (is_inheritable classes)
      (program_supers classes (Prog n)) m
      (all_filter_map IsMet (paired n) (methods_above classes (Prog n)) pairs) among instance
      (ap (λ (t : Bool). t && not (is_private_member classes m)) instance ∙ ap not open_method))
    where
      numbered : (two derived : Option ℕ) → option_map_or set two true ≡ true → is_some two ≡ true
          → IfSome (pair_from classes (Some (class_item classes n)) two derived) IsMet
          → option_map_or set derived true ≡ true
      numbered None derived k e p = absurd cc
      numbered (Some two) None k e p = refl
      numbered (Some two) (Some derived) k e p = p h k

      program_number : (x : ClassId) (index : ℕ) → is_program x ≡ true → is_some (item_in classes x index) ≡ true
      program_number (Prog t) index e = refl
      program_number (Lib id) index e = absurd cc

      same : (s : MemberAt) (t : Bool) → same_member s m ≡ t
          → IfSome (cond t None
          (pair_from classes (Some (class_item classes n)) (item_of classes m) (item_of classes s)))
          IsMet
          → MemberIn s
      same s true e p = ap (λ (z : MemberAt). is_in classes set (OfMember z)) (member_is s m e) ∙ k
      same s false e p =
          numbered (item_of classes m) (item_of classes s) k (program_number m.class m.index program) p

      some : (o : Option MemberAt) → IfSome (option_and_then (pair_of classes (Prog n) m) o) IsMet → IfSome o MemberIn
      some None p = tt
      some (Some s) p = same s (same_member s m) refl p

  -- what a call of a method above a class runs on its objects
  pub selected_in : (n : ℕ) (c : Class) (m : MemberAt) → slice_get classes n ≡ Some c
      → set (class_item classes n) ≡ true → is_interface_in classes (Prog n) ≡ false → MemberIn m
      → is_below classes (Prog n) m.class ≡ true → same_class (Prog n) m.class ≡ false
      → is_instance_method classes m ≡ true → is_private_member classes m ≡ false
      → IfSome (selected classes (Prog n) m) MemberIn
  selected_in n c m is h class k below other instance open_method = by (is_program m.class) refl
    where
      by : (t : Bool) → is_program m.class ≡ t → IfSome (selected classes (Prog n) m) MemberIn
      by true e = called_by_program n c m is h (class_flag classes n c is class) k
          (is_above classes (Prog n) m.class m.index e instance below other) e instance open_method
      by false e = called_by_library n c m is h (class_flag classes n c is class)
          (is_listed classes (Prog n) m.class below other) e instance
