-- The direct supertypes of classes, and numbers of classes.
use Rattle.std.proofs.Common.{◌≡◌, ⊎_elim, ℕ, ◌+◌, ◌-◌, ◌<◌, ◌≤◌, ◌⊎◌, inl, inr, Bool}
use Rattle.std.proofs.Common.{cond, List, [], ◌∷◌, length, Option, Some, None, refl, sym, ap}
use Rattle.std.proofs.Common.{subst, ◌∙◌, arith}
use Rattle.std.specs.List.{All, cons_option, filter_map}
use Rattle.std.specs.Option.{option_and_then, option_map}
use Rattle.std.proofs.lemmas.Bool.{cases_lt, le-ltb, lt-ltb}
use Rattle.std.proofs.lemmas.List.{get_or_past}
use Rattle.std.proofs.lemmas.List.Elements.{All-cons, All-nil}
use Rattle.std.proofs.lemmas.Option.{slice_get_cases}
use Rattle.class_model.specs.declared.class.Class.{Class}
use Rattle.lib_table.specs.Library.{LibraryClass, class, library}
use Rattle.lib_table.specs.declared.class.LibKind.TheVariants.{Open}
use Rattle.lib_table.specs.Lookups as table
use Rattle.lib_table.proofs.Classes.{class_below}
use Rattle.class_pool.specs.declared.id.ClassId.{ClassId}
use Rattle.class_pool.specs.declared.id.ClassId.TheVariants.{Prog, Lib}
use Rattle.class_pool.specs.bodies.Graph.{id_at, number}
use Rattle.class_pool.specs.Hierarchy.{IsClass, classes_named, or_found}
use Rattle.class_pool.specs.Supertypes.{IsProperSub, direct}
use Rattle.class_pool.proofs.Above.{direct_none, direct_of}
use Rattle.class_pool.proofs.Naming.{number_below}

-- ---- direct supertypes

direct_past : (classes : List Class) (id : ℕ) → length library ≤ id → direct classes (Lib id) ≡ []
direct_past classes id over =
    let d : LibraryClass = class [] Open None [] [] in
    ap
    (λ (c : LibraryClass). cons_option (option_map Lib (option_and_then table.class_named c.super_name))
    (filter_map (λ i. Some (Lib i)) (filter_map table.class_named c.interfaces)))
    (get_or_past library id d over)

-- the direct supertypes of what is no class
pub none_above : (classes : List Class) (id : ClassId) → (IsClass classes id → ⊥) → direct classes id ≡ []
none_above classes (Prog n) other =
    ⊎_elim (λ p. absurd (other p.1)) (λ p. direct_none classes n p.1) (slice_get_cases classes n).1
none_above classes (Lib id) other = ⊎_elim (λ within. absurd (other within)) (λ over. direct_past classes id over)
    (cases_lt id (length library))

pub class_cases : (classes : List Class) (id : ClassId) → IsClass classes id ⊎ (IsClass classes id → ⊥)
class_cases classes (Prog n) = ⊎_elim (λ w. inl w) (λ o. inr (λ w. omega (arith, w, o))) (cases_lt n (length classes))
class_cases classes (Lib id) = ⊎_elim (λ w. inl w) (λ o. inr (λ w. omega (arith, w, o))) (cases_lt id (length library))

valid_step : (classes : List Class) (o t : Option ℕ) (ids : List ClassId) → ((n : ℕ) → o ≡ Some n → n < length classes)
    → ((n : ℕ) → t ≡ Some n → n < length library) → All (IsClass classes) ids
    → All (IsClass classes) (cons_option (or_found o (option_map Lib t)) ids)
valid_step classes (Some n) t ids prog lib others = All-cons (IsClass classes) (Prog n) ids (prog n refl) others
valid_step classes None (Some id) ids prog lib others = All-cons (IsClass classes) (Lib id) ids (lib id refl) others
valid_step classes None None ids prog lib others = others

named_valid : (classes : List Class) (names : List (List ℕ)) → All (IsClass classes) (classes_named classes names)
named_valid classes [] = All-nil (IsClass classes)
named_valid classes (name ∷ names) =
    valid_step classes _ (table.class_named name) (classes_named classes names) (λ n is. number_below classes name n is)
    (λ n is. class_below name n is) (named_valid classes names)

lib_step : (classes : List Class) (o : Option ℕ) (ids : List ClassId) → ((n : ℕ) → o ≡ Some n → n < length library)
    → All (IsClass classes) ids → All (IsClass classes) (cons_option (option_map Lib o) ids)
lib_step classes (Some id) ids lib others = All-cons (IsClass classes) (Lib id) ids (lib id refl) others
lib_step classes None ids lib others = others

one_step : (classes : List Class) (o : Option ℕ) (ns : List ℕ) → ((n : ℕ) → o ≡ Some n → n < length library)
    → All (IsClass classes) (filter_map (λ i. Some (Lib i)) ns)
    → All (IsClass classes) (filter_map (λ i. Some (Lib i)) (cons_option o ns))
one_step classes (Some id) ns lib others = All-cons (IsClass classes) (Lib id) (filter_map (λ i. Some (Lib i)) ns)
    (lib id refl) others
one_step classes None ns lib others = others

library_valid : (classes : List Class) (names : List (List ℕ))
    → All (IsClass classes) (filter_map (λ i. Some (Lib i)) (filter_map table.class_named names))
library_valid classes [] = All-nil (IsClass classes)
library_valid classes (name ∷ names) = one_step classes (table.class_named name) (filter_map table.class_named names)
    (λ n is. class_below name n is) (library_valid classes names)

pub super_below : (o : Option (List ℕ)) (n : ℕ) → option_and_then table.class_named o ≡ Some n → n < length library
super_below None n is = absurd cc
super_below (Some name) n is = class_below name n is

pub direct_valid : (classes : List Class) (id : ClassId) → All (IsClass classes) (direct classes id)
direct_valid classes (Prog n) =
    ⊎_elim
    (λ p. subst (All (IsClass classes)) (sym (direct_of classes n p.0 p.2))
    (named_valid classes (p.0.super_name ∷ p.0.interfaces)))
    (λ p. subst (All (IsClass classes)) (sym (direct_none classes n p.1)) (All-nil (IsClass classes)))
    (slice_get_cases classes n).1
direct_valid classes (Lib id) =
    lib_step classes (table.super_of id) (filter_map (λ i. Some (Lib i)) (table.interfaces_of id))
    (λ n is. super_below (table.class_at id).super_name n is)
    (library_valid classes (table.class_at id).interfaces)

-- ---- numbers

pub id_at_number : (classes : List Class) (id : ClassId) → IsClass classes id → id_at (number id) ≡ id
id_at_number classes (Lib id) within = ap (λ (t : Bool). cond t (Lib id) (Prog (id - length library)))
    (lt-ltb id (length library) within)
id_at_number classes (Prog n) within =
    let less : length library + n - length library ≡ n = omega arith in
    ap (λ (t : Bool). cond t (Lib (length library + n)) (Prog (length library + n - length library)))
    (le-ltb (length library + n) (length library) (omega arith))
    ∙ ap Prog less

-- ---- a class and its supertypes

pub proper_direct : (classes : List Class) (a : ClassId) → All (IsProperSub classes a) (direct classes a)
proper_direct classes a k d within set starts closed = starts k d within

pub proper_on : (classes : List Class) (a x : ClassId) → IsProperSub classes a x
    → All (IsProperSub classes a) (direct classes x)
proper_on classes a x proper k d within set starts closed = closed x (proper set starts closed) k d within
