-- Graphs of numbers.
use Rattle.std.proofs.Common.{◌≡◌, ⊎_elim, ℕ, zero, suc, ◌+◌, ◌<◌, ◌≤◌, true, nat_le, List, [], ◌∷◌, ◌++◌, length}
use Rattle.std.proofs.Common.{get_or, take, map, slice_get, Option, Some, None, refl, sym, ap, ◌∙◌, arith}
use Rattle.std.specs.List.{cons_option, filter_map, list_all}
use Rattle.std.specs.Option.{option_and_then}
use Rattle.std.specs.Borrow.{Bor}
use Rattle.std.proofs.lemmas.Bool.{cases_lt, leb-true}
use Rattle.std.proofs.lemmas.List.{take_more, take_all, get_or_past, map-append}
use Rattle.std.proofs.lemmas.List.Elements.{filter_map-append}
use Rattle.std.proofs.lemmas.List.FromFn.{get_or-range_with_len, length-range_with_len}
use Rattle.jv_base.proofs.Lists.{length-filter_map}
use Rattle.class_model.specs.declared.class.Class.{Class}
use Rattle.lib_table.specs.Library.{LibraryClass, class, library}
use Rattle.lib_table.specs.declared.class.LibKind.TheVariants.{Open}
use Rattle.lib_table.specs.Lookups.{class_at, class_named, interfaces_of, super_of}
use Rattle.lib_table.proofs.Classes.{class_below, holds_at}
use Rattle.class_pool.specs.declared.id.ClassId.{ClassId}
use Rattle.class_pool.specs.declared.id.ClassId.TheVariants.{Prog, Lib}
use Rattle.class_pool.specs.bodies.Graph.{IsThere, above_library, library_ids, number}
use Rattle.class_pool.specs.Hierarchy.{IsClass, classes_named}
use Rattle.class_pool.specs.Hierarchy as hierarchy

-- ---- the library

pub library_length : (ids : List ℕ) → ids ≡ library_ids → length ids ≡ length library
library_length ids is = ap (λ (xs : List ℕ). length xs) is ∙ length-range_with_len 0 (length library)

pub library_at : (ids : List ℕ) (k x : ℕ) → ids ≡ library_ids → k < length ids → x ≡ get_or ids k x → x ≡ k
library_at ids k x is within at =
    let long = library_length ids is in
    let plain : 0 + k ≡ k = omega arith in
    at ∙ ap (λ (xs : List ℕ). get_or xs k x) is
    ∙ get_or-range_with_len 0 (length library) k x (omega (arith, within, long)) ∙ plain

pub library_more : (names : List (Bor (List ℕ))) (i : ℕ) (d : Bor (List ℕ)) (ids grown : List ℕ) (name : List ℕ)
    → i < length names → ids ≡ filter_map (λ n. class_named n.now) (take i names)
    → name ≡ (get_or names i d).now → grown ≡ ids ++ filter_map class_named (name ∷ [])
    → grown ≡ filter_map (λ n. class_named n.now) (take (i + 1) names)
library_more names i d ids grown name within before is put =
    put
    ∙ ap (λ (n : List ℕ). ids ++ filter_map class_named (n ∷ [])) is
    ∙ ap (λ (xs : List ℕ). xs ++ filter_map class_named ((get_or names i d).now ∷ [])) before
    ∙ sym (filter_map-append (λ (n : Bor (List ℕ)). class_named n.now) (take i names) (get_or names i d ∷ []))
    ∙ ap (λ (ns : List (Bor (List ℕ))). filter_map (λ (n : Bor (List ℕ)). class_named n.now) ns)
    (sym (take_more names i d within))

named_ids : (names : List (Bor (List ℕ)))
    → filter_map (λ n. class_named n.now) names ≡ filter_map class_named (map (λ n. n.now) names)
named_ids [] = refl
named_ids (n ∷ names) = ap (cons_option (class_named n.now)) (named_ids names)

library_found : filter_map class_named (map (λ c. c.name) library) ≡ library_ids
unfolding library
library_found = refl

-- the classes with the names of the table are those of the library
pub library_all : (names : List (Bor (List ℕ))) (i : ℕ) (ids : List ℕ)
    → ids ≡ filter_map (λ n. class_named n.now) (take i names) → length names ≤ i
    → map (λ n. n.now) names ≡ map (λ c. c.name) library → ids ≡ library_ids
library_all names i ids before over is =
    before
    ∙ ap (filter_map (λ (n : Bor (List ℕ)). class_named n.now)) (take_all i names over)
    ∙ named_ids names ∙ ap (filter_map class_named) is ∙ library_found

few_named : list_all (λ c. nat_le (length c.interfaces) 3) library ≡ true
unfolding library
few_named = refl

pub few_interfaces : (id : ℕ) → length (interfaces_of id) ≤ 3
few_interfaces id =
    let d : LibraryClass = class [] Open None [] [] in
    let short = length-filter_map class_named (class_at id).interfaces in
    ⊎_elim
    (λ within. let h : length (class_at id).interfaces ≤ 3 = leb-true _ _
    (holds_at (λ c. nat_le (length c.interfaces) 3) library id d few_named within) in omega (arith, short, h))
    (λ over.
    let h : length (class_at id).interfaces
    ≡ 0 = ap (λ (c : LibraryClass). length c.interfaces) (get_or_past library id d over) in
    omega (arith, short, h))
    (cases_lt id (length library))

some_below : (xs : List ℕ) (k x : ℕ) → slice_get xs k ≡ Some x → k < length xs
some_below [] k x is = absurd cc
some_below (y ∷ ys) zero x is = omega arith
some_below (y ∷ ys) (suc k) x is = let h = some_below ys k x is in omega (arith, h)

pub none_over : (xs : List ℕ) (k : ℕ) → slice_get xs k ≡ None → length xs ≤ k
none_over [] k is = omega arith
none_over (y ∷ ys) zero is = absurd cc
none_over (y ∷ ys) (suc k) is = let h = none_over ys k is in omega (arith, h)

pub interface_below : (id k i : ℕ) → Some i ≡ slice_get (interfaces_of id) k → k < length (interfaces_of id)
interface_below id k i is = some_below (interfaces_of id) k i (sym is)

taken_next : (xs : List ℕ) (k x : ℕ) → slice_get xs k ≡ Some x → take k xs ++ x ∷ [] ≡ take (suc k) xs
taken_next [] k x is = absurd cc
taken_next (y ∷ ys) zero x is = cc
taken_next (y ∷ ys) (suc k) x is = ap (λ (zs : List ℕ). y ∷ zs) (taken_next ys k x is)

pub some_taken : (xs : List ℕ) (k x : ℕ) → slice_get xs k ≡ Some x → take k xs ++ x ∷ [] ≡ take (k + 1) xs
some_taken xs k x is = let e : suc k ≡ k + 1 = omega arith in taken_next xs k x is ∙ ap (λ (n : ℕ). take n xs) e

cons_pushed : (o : Option ℕ) (xs : List ℕ) (x : ℕ) → cons_option o xs ++ x ∷ [] ≡ cons_option o (xs ++ x ∷ [])
cons_pushed (Some y) xs x = refl
cons_pushed None xs x = refl

pub interface_put : (id k i n : ℕ) (numbers grown : List ℕ) → Some i ≡ slice_get (interfaces_of id) k
    → numbers ≡ cons_option (super_of id) (take k (interfaces_of id)) → n ≡ i
    → grown ≡ numbers ++ n ∷ [] → grown ≡ cons_option (super_of id) (take (k + 1) (interfaces_of id))
interface_put id k i n numbers grown is before same put =
    put
    ∙ ap (λ (x : ℕ). numbers ++ x ∷ []) same
    ∙ ap (λ (xs : List ℕ). xs ++ i ∷ []) before
    ∙ cons_pushed (super_of id) (take k (interfaces_of id)) i
    ∙ ap (cons_option (super_of id)) (some_taken (interfaces_of id) k i (sym is))

pub interfaces_all : (id k : ℕ) (numbers : List ℕ) → None ≡ slice_get (interfaces_of id) k
    → numbers ≡ cons_option (super_of id) (take k (interfaces_of id)) → numbers ≡ above_library id
interfaces_all id k numbers is before = before
    ∙ ap (cons_option (super_of id)) (take_all k (interfaces_of id) (none_over (interfaces_of id) k (sym is)))

mapped_below : (names : List (List ℕ)) (k i : ℕ) → Some i ≡ slice_get (filter_map class_named names) k
    → i < length library
mapped_below [] k i is = absurd cc
mapped_below (name ∷ names) k i is = step (class_named name) (filter_map class_named names)
    (λ n at. class_below name n at) (mapped_below names) k is
  where
    step : (o : Option ℕ) (xs : List ℕ) → ((n : ℕ) → o ≡ Some n → n < length library)
        → ((j i : ℕ) → Some i ≡ slice_get xs j → i < length library) → (j : ℕ) → Some i ≡ slice_get (cons_option o xs) j
        → i < length library
    step None xs first others j is = others j i is
    step (Some n) xs first others zero is = first i (sym is)
    step (Some n) xs first others (suc j) is = others j i is

pub interface_there : (id k i : ℕ) → Some i ≡ slice_get (interfaces_of id) k → i < length library
interface_there id k i is = mapped_below (class_at id).interfaces k i is

super_step : (o : Option (List ℕ)) (i : ℕ) → Some i ≡ option_and_then class_named o → i < length library
super_step None i is = absurd cc
super_step (Some name) i is = class_below name i (sym is)

pub super_there : (id i : ℕ) → Some i ≡ super_of id → i < length library
super_there id i is = super_step (class_at id).super_name i is

pub is_there : (classes : List Class) (id : ClassId) → IsClass classes id → IsThere id
is_there classes (Prog n) within = tt
is_there classes (Lib id) within = within

-- ---- program classes

pub named_more : (classes : List Class) (first name : List ℕ) (names : List (List ℕ)) (i : ℕ) → i < length names
    → name ≡ get_or names i name
    → map number (classes_named classes (first ∷ take i names)) ++ map number (classes_named classes (name ∷ []))
    ≡ map number (classes_named classes (first ∷ take (i + 1) names))
named_more classes first name names i within is =
    sym (map-append number (classes_named classes (first ∷ take i names)) (classes_named classes (name ∷ [])))
    ∙ ap (map number)
    (sym (filter_map-append (hierarchy.class_named classes) (first ∷ take i names) (name ∷ []))
    ∙ ap (λ (t : List (List ℕ)). classes_named classes (first ∷ t))
    (sym (take_more names i name within ∙ ap (λ (n : List ℕ). take i names ++ n ∷ []) (sym is))))
