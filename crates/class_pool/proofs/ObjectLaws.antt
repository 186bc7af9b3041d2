-- Object stands above each class of a set that passed the rounds of names and of supertypes.
use Rattle.std.proofs.Common.{◌≡◌, ⊎_elim, ℕ, ◌+◌, ◌<◌, ◌&&◌, ◌||◌, Bool, true, false, not, nat_eq, cond, List, [], ◌∷◌}
use Rattle.std.proofs.Common.{length, get_or, slice_get, codes, Option, Some, None, Result, Ok, Err, refl, sym, ap}
use Rattle.std.proofs.Common.{subst, ◌∙◌, arith}
use Rattle.std.specs.List.{All, cons_option, filter_map, list_all, list_any, position, starts_with}
use Rattle.std.specs.Option.{is_none, option_and_then, option_map, option_map_or}
use Rattle.std.proofs.lemmas.Bool.{both_ways, cases_lt, eqb-true, and_parts, or_parts, not-false}
use Rattle.std.proofs.lemmas.List.{get_or-map, get_or_past, length-map}
use Rattle.std.proofs.lemmas.List.Elements.{All-cons, All-nil}
use Rattle.std.proofs.lemmas.List.FromFn.{get_or-range_with_len, length-range_with_len}
use Rattle.std.proofs.lemmas.List.Quantifiers.{position-Some}
use Rattle.std.proofs.lemmas.Option.{get_or_from_slice_get, slice_get_cases}
use Rattle.jv_base.specs.Names.{is_text}
use Rattle.jv_base.proofs.Equality.{text_Decides}
use Rattle.class_model.specs.Flags.{acc_final, has, is_interface}
use Rattle.class_model.specs.declared.class.Class.{Class}
use Rattle.lib_table.specs.Library.{LibraryClass, class, library}
use Rattle.lib_table.specs.declared.class.LibKind.TheVariants.{Interface, Final, Open}
use Rattle.lib_table.specs.Lookups as table
use Rattle.lib_table.proofs.Classes.{holds_at}
use Rattle.class_pool.specs.declared.fault.NamedClass.{NamedClass}
use Rattle.class_pool.specs.declared.fault.PoolFault.{PoolFault}
use Rattle.class_pool.specs.declared.fault.PoolKind.{PoolKind}
use Rattle.class_pool.specs.declared.id.ClassId.{ClassId}
use Rattle.class_pool.specs.declared.id.ClassId.TheVariants.{Prog, Lib}
use Rattle.class_pool.specs.Faults.{Builds, classes_of, then_super_faults, is_super_missing, is_super_wrong}
use Rattle.class_pool.specs.Faults.{is_wrong_interface, is_wrong_superclass, name_fault, name_faults, super_fault}
use Rattle.class_pool.specs.Faults.{super_faults}
use Rattle.class_pool.specs.bodies.Graph.{library_ids}
use Rattle.class_pool.specs.Hierarchy.{IsClass, class_named, classes_named, interfaces, is_interface_kind, kind_in}
use Rattle.class_pool.specs.Hierarchy.{kind_of, or_found, superclass}
use Rattle.class_pool.specs.Ranks.{HasObject}
use Rattle.class_pool.proofs.FaultLaws.{none_at}

abbrev object_name : List ℕ
object_name = codes "java/lang/Object"

-- ---- the library

-- what is computed for each row of the table
pub at_row : (p : ℕ → Bool) (id : ℕ) → list_all p library_ids ≡ true → id < length library → p id ≡ true
at_row p id all within =
    let plain : 0 + id ≡ id = omega arith in
    let long = length-range_with_len 0 (length library) in
    subst (λ (k : ℕ). p k ≡ true) (get_or-range_with_len 0 (length library) id 0 within ∙ plain)
    (holds_at p library_ids id 0 all (omega (arith, within, long)))

abbrev is_first : Option ℕ → Bool
is_first o = option_map_or (λ n. nat_eq n 0) o false

first_is : (o : Option ℕ) → is_first o ≡ true → o ≡ Some 0
first_is None h = absurd cc
first_is (Some n) h = ap Some (eqb-true n 0 h)

object_row : table.class_named object_name ≡ Some 0
unfolding library
object_row = refl

rows_alone : list_all (λ id. not (is_none (table.super_of id)) || nat_eq id 0) library_ids ≡ true
unfolding library
rows_alone = refl

rows_interface : list_all
    (λ id. not (is_interface_kind (table.class_at id).kind) || is_first (table.super_of id)) library_ids ≡ true
unfolding library
rows_interface = refl

rows_above : list_all (λ id. list_all (λ i. is_first (table.super_of i)) (table.interfaces_of id)) library_ids ≡ true
unfolding library
rows_above = refl

pub when : (p q : Bool) → p ≡ true → (not p || q) ≡ true → q ≡ true
when true q is h = h
when false q is h = absurd cc

none_mapped : (o : Option ℕ) → option_map Lib o ≡ None → is_none o ≡ true
none_mapped None h = refl
none_mapped (Some n) h = absurd cc

lib_alone : (id : ℕ) → id < length library → option_map Lib (table.super_of id) ≡ None → Lib id ≡ Lib 0
lib_alone id within none =
    ap Lib
    (eqb-true id 0 (when (is_none (table.super_of id)) (nat_eq id 0) (none_mapped (table.super_of id) none)
    (at_row (λ k. not (is_none (table.super_of k)) || nat_eq k 0) id rows_alone within)))

lib_above : (classes : List Class) (ns : List ℕ) → list_all (λ i. is_first (table.super_of i)) ns ≡ true
    → All (λ i. superclass classes i ≡ Some (Lib 0)) (filter_map (λ i. Some (Lib i)) ns)
lib_above classes [] h = All-nil (λ i. superclass classes i ≡ Some (Lib 0))
lib_above classes (n ∷ ns) h =
    let parts = and_parts (is_first (table.super_of n)) (list_all (λ i. is_first (table.super_of i)) ns) h in
    All-cons (λ i. superclass classes i ≡ Some (Lib 0)) (Lib n) (filter_map (λ i. Some (Lib i)) ns)
    (ap (option_map Lib) (first_is (table.super_of n) parts.0)) (lib_above classes ns parts.1)

lib_interface : (classes : List Class) (id : ℕ) → is_interface_kind (table.class_at id).kind ≡ true
    → superclass classes (Lib id) ≡ Some (Lib 0)
lib_interface classes id is =
    ⊎_elim
    (λ within.
    ap (option_map Lib)
    (first_is (table.super_of id)
    (when (is_interface_kind (table.class_at id).kind) (is_first (table.super_of id)) is
    (at_row (λ k. not (is_interface_kind (table.class_at k).kind)
    || is_first (table.super_of k)) id rows_interface within))))
    (λ over. absurd (both_ways _ (ap (λ (c : LibraryClass). is_interface_kind c.kind)
    (get_or_past library id (class [] Open None [] []) over)) is))
    (cases_lt id (length library))

-- ---- the rounds

pub free_name : (t s : Bool) (j k : PoolKind) → cond t (Some j) (cond s (Some k) None) ≡ None → s ≡ false
free_name true s j k h = absurd cc
free_name false true j k h = absurd cc
free_name false false j k h = refl

option_cases : (o : Option ℕ) → ((n : ℕ) → o ≡ Some n → ⊥) → o ≡ None
option_cases None other = refl
option_cases (Some n) other = absurd (other n refl)

-- no class of the set has a name of the library
pub not_named : (files : List NamedClass) (name : List ℕ) → name_faults files ≡ Ok tt
    → starts_with nat_eq name (codes "java/") ≡ true → position (λ c. is_text name c.name) (classes_of files) ≡ None
not_named files name right java =
    option_cases (position (λ c. is_text name c.name) (classes_of files))
    (λ n is.
    let d : Class = first_of files n is in
    let fd : NamedClass = record { path = []; class = d } in
    let found = position-Some (λ (c : Class). is_text name c.name) (classes_of files) n d is in
    let low = found.0 in
    let n-in : n < length files = omega (arith, low, length-map files (λ (f : NamedClass). f.class)) in
    let f : NamedClass = get_or files n fd in
    let at : get_or (classes_of files) n d ≡ f.class = get_or-map (λ (x : NamedClass). x.class) files n fd d n-in in
    let same : name ≡ f.class.name =
    (text_Decides name (get_or (classes_of files) n d).name).0 found.1 ∙ ap (λ (c : Class). c.name) at in
    let free : starts_with nat_eq f.class.name (codes "java/") ≡ false =
    free_name _ _ _ _ (none_at (λ (x : NamedClass). x.class) name_fault files n fd right n-in) in
    both_ways (starts_with nat_eq name (codes "java/"))
    (ap (λ (t : List ℕ). starts_with nat_eq t (codes "java/")) same ∙ free) java)
  where
    first_of : (files : List NamedClass) (n : ℕ) → position (λ c. is_text name c.name) (classes_of files) ≡ Some n
        → Class
    first_of [] n is = absurd cc
    first_of (f ∷ fs) n is = f.class

-- so it is of a set that was built
pub no_library_name : (files : List NamedClass) (set : List Class) (name : List ℕ) → Builds (Ok set) files
    → starts_with nat_eq name (codes "java/") ≡ true → position (λ c. is_text name c.name) set ≡ None
no_library_name files set name built java =
    ap (λ (cs : List Class). position (λ c. is_text name c.name) cs) built.2
    ∙ not_named files name (names_right (name_faults files) built.0) java
  where
    names_right : (r : Result (Unit {0}) PoolFault) → then_super_faults files r ≡ Ok tt → r ≡ Ok tt
    names_right (Ok t) h = refl
    names_right (Err e) h = absurd cc

no_kinds : (t s : Bool) (j k : PoolKind) → cond t (Some j) (cond s (Some k) None) ≡ None → (t ≡ false) × (s ≡ false)
no_kinds true s j k h = absurd cc
no_kinds false true j k h = absurd cc
no_kinds false false j k h = (refl, refl)

-- a class of the set has no fault of its supertypes
right_at : (classes : List Class) (n : ℕ) (c : Class) → super_faults classes ≡ Ok tt → slice_get classes n ≡ Some c
    → n < length classes
    → (is_super_missing classes c ≡ false) × (is_super_wrong classes c ≡ false)
right_at classes n c right is within =
    let none : super_fault classes c ≡ None = sym (ap (super_fault classes) (get_or_from_slice_get classes n c c is))
    ∙ none_at (λ (x : Class). x) (super_fault classes) classes n c right within in
    no_kinds (is_super_missing classes c) (is_super_wrong classes c) _ _ none

wrong_parts : (classes : List Class) (c : Class) → is_super_wrong classes c ≡ false
    → (list_any (is_wrong_interface classes) c.interfaces ≡ false)
    × ((is_interface c.flags.0 && not (is_text c.super_name object_name)) ≡ false)
wrong_parts classes c h =
    let flagged : Bool = is_interface c.flags.0 && not (is_text c.super_name object_name) in
    let outer = or_parts (is_wrong_superclass classes c || list_any
    (is_wrong_interface classes) c.interfaces) flagged h in (
      (or_parts (is_wrong_superclass classes c) (list_any (is_wrong_interface classes) c.interfaces) outer.0).1,
      outer.1,
    )

super_is : (classes : List Class) (n : ℕ) (c : Class) → slice_get classes n ≡ Some c
    → superclass classes (Prog n) ≡ class_named classes c.super_name
super_is classes n c is = ap (option_and_then (λ x. class_named classes x.super_name)) is

prog_alone : (classes : List Class) (n : ℕ) → super_faults classes ≡ Ok tt → n < length classes
    → superclass classes (Prog n) ≡ None → Prog n ≡ Lib 0
prog_alone classes n right within none =
    ⊎_elim
    (λ p.
    let c : Class = p.0 in
    let missing = (right_at classes n c right p.2 within).0 in
    let there = (or_parts (is_none (class_named classes c.super_name))
    (list_any (λ name. is_none (class_named classes name)) c.interfaces) missing).0 in
    absurd (both_ways (is_none (class_named classes c.super_name)) there
    (ap is_none (sym (super_is classes n c p.2) ∙ none))))
    (λ p. absurd (omega (arith, within, p.0)))
    (slice_get_cases classes n).1

pub interface_flag : (c : Class) → is_interface_kind (kind_of c) ≡ true → is_interface c.flags.0 ≡ true
interface_flag c h = kind_step (is_interface c.flags.0) (has acc_final c.flags.0) h
  where
    kind_step : (p q : Bool) → is_interface_kind (cond p Interface (cond q Final Open)) ≡ true → p ≡ true
    kind_step true q h = refl
    kind_step false true h = absurd cc
    kind_step false false h = absurd cc

named_so : (p t : Bool) → p ≡ true → (p && not t) ≡ false → t ≡ true
named_so true true is h = refl
named_so true false is h = absurd cc
named_so false t is h = absurd cc

prog_interface : (classes : List Class) (n : ℕ) → super_faults classes ≡ Ok tt
    → class_named classes object_name ≡ Some (Lib 0) → is_interface_kind (kind_in classes (Prog n)) ≡ true
    → superclass classes (Prog n) ≡ Some (Lib 0)
prog_interface classes n right object is =
    ⊎_elim
    (λ p.
    let c : Class = p.0 in
    let wrong = (right_at classes n c right p.2 p.1).1 in
    let last = (wrong_parts classes c wrong).1 in
    let kind : is_interface_kind (kind_of c)
    ≡ true = sym (ap (λ (o : Option Class). is_interface_kind (option_map_or kind_of o Open)) p.2) ∙ is in
    let named : c.super_name
    ≡ object_name = (text_Decides c.super_name object_name).0
    (named_so (is_interface c.flags.0) (is_text c.super_name object_name) (interface_flag c kind) last) in
    super_is classes n c p.2 ∙ ap (class_named classes) named ∙ object)
    (λ p. absurd (both_ways _ (ap (λ (o : Option Class). is_interface_kind (option_map_or kind_of o Open)) p.1) is))
    (slice_get_cases classes n).1

interface_object : (classes : List Class) (i : ClassId) → super_faults classes ≡ Ok tt
    → class_named classes object_name ≡ Some (Lib 0) → is_interface_kind (kind_in classes i) ≡ true
    → superclass classes i ≡ Some (Lib 0)
interface_object classes (Prog n) right object is = prog_interface classes n right object is
interface_object classes (Lib id) right object is = lib_interface classes id is

named_step : (classes : List Class) (o : Option ClassId) (rest : List ClassId) → super_faults classes ≡ Ok tt
    → class_named classes object_name ≡ Some (Lib 0)
    → option_map_or (λ id. not (is_interface_kind (kind_in classes id))) o false ≡ false
    → All (λ i. superclass classes i ≡ Some (Lib 0)) rest
    → All (λ i. superclass classes i ≡ Some (Lib 0)) (cons_option o rest)
named_step classes None rest right object h others = others
named_step classes (Some i) rest right object h others =
    All-cons (λ j. superclass classes j ≡ Some (Lib 0)) i rest
    (interface_object classes i right object (not-false (is_interface_kind (kind_in classes i)) h)) others

named_above : (classes : List Class) (names : List (List ℕ)) → super_faults classes ≡ Ok tt
    → class_named classes object_name ≡ Some (Lib 0) → list_any (is_wrong_interface classes) names ≡ false
    → All (λ i. superclass classes i ≡ Some (Lib 0)) (classes_named classes names)
named_above classes [] right object h = All-nil (λ i. superclass classes i ≡ Some (Lib 0))
named_above classes (name ∷ names) right object h =
    let parts = or_parts (is_wrong_interface classes name) (list_any (is_wrong_interface classes) names) h in
    named_step classes (class_named classes name) (classes_named classes names) right object parts.0
    (named_above classes names right object parts.1)

prog_above : (classes : List Class) (n : ℕ) → super_faults classes ≡ Ok tt
    → class_named classes object_name ≡ Some (Lib 0) → n < length classes
    → All (λ i. superclass classes i ≡ Some (Lib 0)) (interfaces classes (Prog n))
prog_above classes n right object within =
    ⊎_elim
    (λ p.
    let c : Class = p.0 in
    let wrong = (right_at classes n c right p.2 within).1 in
    let none = (wrong_parts classes c wrong).0 in
    subst (All (λ i. superclass classes i ≡ Some (Lib 0)))
    (sym (ap (λ (o : Option Class). option_map_or (λ x. classes_named classes x.interfaces) o []) p.2))
    (named_above classes c.interfaces right object none))
    (λ p. absurd (omega (arith, within, p.0)))
    (slice_get_cases classes n).1

set_has_object : (classes : List Class) → super_faults classes ≡ Ok tt → class_named classes object_name ≡ Some (Lib 0)
    → HasObject classes
set_has_object classes right object = record {
  object = Lib 0;
  alone = alone;
  above = above;
}
  where
    alone : (a : ClassId) → IsClass classes a → superclass classes a ≡ None → a ≡ Lib 0
    alone (Prog n) a-in none = prog_alone classes n right a-in none
    alone (Lib id) a-in none = lib_alone id a-in none

    above : (a : ClassId) → IsClass classes a → All (λ i. superclass classes i ≡ Some (Lib 0)) (interfaces classes a)
    above (Prog n) a-in = prog_above classes n right object a-in
    above (Lib id) a-in = lib_above classes (table.interfaces_of id)
        (at_row (λ k. list_all (λ i. is_first (table.super_of i)) (table.interfaces_of k)) id rows_above a-in)

pub has_object : (files : List NamedClass) (classes : List Class) → name_faults files ≡ Ok tt
    → super_faults classes ≡ Ok tt → classes ≡ classes_of files → HasObject classes
has_object files classes names supers is =
    set_has_object classes supers
    (ap (λ (cs : List Class). class_named cs object_name) is
    ∙ ap (λ (o : Option ℕ). or_found o (option_map Lib (table.class_named object_name)))
    (not_named files object_name names refl)
    ∙ ap (option_map Lib) object_row)
