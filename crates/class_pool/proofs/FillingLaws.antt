-- Lists of superinterfaces, made from those of the direct ones.
use Rattle.std.proofs.Common.{append_assoc, ◌≡◌, ⊎_elim, ℕ, ◌+◌, ◌<◌, ◌≤◌, ◌&&◌, Bool, true, false, cond, zero, suc}
use Rattle.std.proofs.Common.{List, [], ◌∷◌, ◌++◌, length, get_or, set, take, slice_get, Some, None, refl, sym, ap, ◌∙◌}
use Rattle.std.proofs.Common.{subst, arith}
use Rattle.std.specs.List.{All, filter_map, flat_map, list_all, list_any}
use Rattle.std.proofs.lemmas.Bool.{both_ways, cases_eq, and_parts}
use Rattle.std.proofs.lemmas.List.{flat_map_more, get_or-set_other, get_or-set_same, length-set}
use Rattle.std.proofs.lemmas.List.{take_all, take_more}
use Rattle.std.proofs.lemmas.List.Elements.{All-cons, All-head, All-nil, All-set, All-tail, All-weaker}
use Rattle.std.proofs.lemmas.List.Elements.{filter_map-append}
use Rattle.std.proofs.lemmas.Option.{get_or_from_slice_get}
use Rattle.jv_base.proofs.Lists.{all_flat}
use Rattle.class_model.specs.declared.class.Class.{Class}
use Rattle.lib_table.specs.Library.{library}
use Rattle.lib_table.specs.Lookups.{interfaces_of}
use Rattle.lib_table.proofs.Computed.{count}
use Rattle.class_pool.specs.declared.id.ClassId.{ClassId}
use Rattle.class_pool.specs.declared.id.ClassId.TheVariants.{Prog, Lib}
use Rattle.class_pool.specs.declared.hierarchy.superinterfaces.Filling.{Filling}
use Rattle.class_pool.specs.bodies.Filling.{AreFilled, IsFilling, IsOnce, is_filled}
use Rattle.class_pool.specs.bodies.Graph.{id_at, number}
use Rattle.class_pool.specs.Hierarchy.{IsClass, class_named, classes_named, interfaces}
use Rattle.class_pool.specs.bodies.Lists.{AreOwn, AreSteps, list_at}
use Rattle.class_pool.specs.Ranks.{HasRanks}
use Rattle.class_pool.specs.bodies.Marked.{Classes, IsBelow}
use Rattle.class_pool.specs.Walk.{each_once, highest, own_superinterfaces, same_class, walked}
use Rattle.class_pool.proofs.EachOnce.{bool_cases, once_append, once_before, once_twice, same_is}
use Rattle.class_pool.proofs.Graphing.{is_there, none_over, some_taken}
use Rattle.class_pool.proofs.Marking.{same_place}
use Rattle.class_pool.proofs.Directs.{id_at_number}
use Rattle.class_pool.proofs.Walking.{interfaces_fall, interfaces_valid, own_next}

-- ---- interfaces of a library class

pub library_put : (id k i : ℕ) (ids grown : List ClassId) → Some i ≡ slice_get (interfaces_of id) k
    → ids ≡ filter_map (λ n. Some (Lib n)) (take k (interfaces_of id)) → grown ≡ ids ++ Lib i ∷ []
    → grown ≡ filter_map (λ n. Some (Lib n)) (take (k + 1) (interfaces_of id))
library_put id k i ids grown is before put =
    put
    ∙ ap (λ (t : List ClassId). t ++ Lib i ∷ []) before
    ∙ sym (filter_map-append (λ n. Some (Lib n)) (take k (interfaces_of id)) (i ∷ []))
    ∙ ap (filter_map (λ n. Some (Lib n))) (some_taken (interfaces_of id) k i (sym is))

pub library_done : (id k : ℕ) (ids : List ClassId) → None ≡ slice_get (interfaces_of id) k
    → ids ≡ filter_map (λ n. Some (Lib n)) (take k (interfaces_of id))
    → ids ≡ filter_map (λ n. Some (Lib n)) (interfaces_of id)
library_done id k ids is before = before
    ∙ ap (filter_map (λ n. Some (Lib n))) (take_all k (interfaces_of id) (none_over (interfaces_of id) k (sym is)))

-- ---- walks over lists

pub once_then : (s xs ys ids new : List ClassId) → ids ≡ s ++ each_once s xs → new ≡ ids ++ each_once ids ys
    → new ≡ s ++ each_once s (xs ++ ys)
once_then s xs ys ids new before is = cc
    (append_assoc s (each_once s xs) (each_once (s ++ each_once s xs) ys), once_append xs ys s)

-- one more interface is met, and then its list
pub walk_more : (lists : List (List ClassId)) (s xs : List ClassId) (i : ℕ) (d : ClassId) (ids one new : List ClassId)
    → i < length xs
    → ids ≡ s ++ each_once s (flat_map (λ j. j ∷ list_at lists j) (take i xs))
    → one ≡ ids ++ each_once ids (get_or xs i d ∷ []) → new ≡ one ++ each_once one (list_at lists (get_or xs i d))
    → new ≡ s ++ each_once s (flat_map (λ j. j ∷ list_at lists j) (take (i + 1) xs))
walk_more lists s xs i d ids one new within before is then =
    let front : List ClassId = flat_map (λ j. j ∷ list_at lists j) (take i xs) in
    let x : ClassId = get_or xs i d in
    once_then s (front ++ x ∷ []) (list_at lists x) one new (once_then s front (x ∷ []) ids one before is) then
    ∙ ap (λ (t : List ClassId). s ++ each_once s t)
    (append_assoc front (x ∷ []) (list_at lists x)
    ∙ flat_map_more (λ j. j ∷ list_at lists j) [] (take i xs) x
    ∙ ap (flat_map (λ j. j ∷ list_at lists j)) (sym (take_more xs i d within)))

once_first : (s : List ClassId) (i : ClassId) (f g : List ClassId) → f ≡ each_once [] g
    → each_once s (i ∷ f) ≡ each_once s (i ∷ g)
once_first s i f g is =
    once_append (i ∷ []) f s
    ∙ ap (λ (t : List ClassId). each_once s (i ∷ []) ++ t)
    (ap (each_once (s ++ each_once s (i ∷ []))) is ∙ once_twice (s ++ each_once s (i ∷ [])) g)
    ∙ sym (once_append (i ∷ []) g s)

-- each list has its classes once, and so has the walk over them
pub once_lists : (f g : ClassId → List ClassId) (is s : List ClassId) → All (λ i. f i ≡ each_once [] (g i)) is
    → each_once s (flat_map (λ i. i ∷ f i) is) ≡ each_once s (flat_map (λ i. i ∷ g i) is)
once_lists f g [] s h = refl
once_lists f g (i ∷ is) s h =
    let first = once_first s i (f i) (g i) (All-head (λ j. f j ≡ each_once [] (g j)) i is h) in
    once_append (i ∷ f i) (flat_map (λ j. j ∷ f j) is) s
    ∙ ap (λ (t : List ClassId). t ++ each_once (s ++ t) (flat_map (λ j. j ∷ f j) is)) first
    ∙ ap (λ (t : List ClassId). each_once s (i ∷ g i) ++ t)
    (once_lists f g is (s ++ each_once s (i ∷ g i)) (All-tail (λ j. f j ≡ each_once [] (g j)) i is h))
    ∙ sym (once_append (i ∷ g i) (flat_map (λ j. j ∷ g j) is) s)

-- ---- one more list

pub is_below : (classes : List Class) (a : ClassId) → IsClass classes a → IsBelow (length library + length classes) a
is_below classes (Prog n) a-in = (tt, omega (arith, a-in))
is_below classes (Lib id) a-in = (a-in, omega (arith, a-in))

pub below_all : (classes : List Class) (ids : List ClassId) → All (IsClass classes) ids
    → All (IsBelow (length library + length classes)) ids
below_all classes ids h = All-weaker (IsClass classes) (IsBelow (length library + length classes))
    (λ a. is_below classes a) ids h

lower_differs : (rank : ClassId → ℕ) (x a : ClassId) → rank x < rank a → same_class x a ≡ false
lower_differs rank x a low =
    ⊎_elim
    (λ same. let is = ap rank (same_is x a same) in absurd (omega (arith, low, is)))
    (λ other. other)
    (bool_cases (same_class x a))

pub list_is : (classes : List Class) (f : Filling) (a : ClassId) (ids : List ClassId) → AreSteps classes
    → IsFilling classes f → IsClass classes a → AreFilled f.filled.items (interfaces classes a)
    → ids ≡ each_once [] (flat_map (λ i. i ∷ list_at f.lists i) (interfaces classes a))
    → ids ≡ each_once [] (own_superinterfaces classes a)
list_is classes f a ids steps h a-in filled is =
    is
    ∙ once_lists (list_at f.lists) (own_superinterfaces classes) (interfaces classes a) []
    (λ k d within. h.own (get_or (interfaces classes a) k d) (interfaces_valid classes a k d within)
    (filled k d within))
    ∙ ap (each_once []) (sym (steps a a-in))

once_all : (P : ClassId → Type 0) (xs s : List ClassId) → All P xs → All P (each_once s xs)
unfolding each_once
once_all P [] s h = h
once_all P (x ∷ xs) s h =
    elim (list_any (same_class x) s) as (λ b. All P (cond b (each_once s xs) (x ∷ each_once (x ∷ s) xs))) [
      | true ↦ once_all P xs s (All-tail P x xs h)
      | false ↦ All-cons P x (each_once (x ∷ s) xs) (All-head P x xs h) (once_all P xs (x ∷ s) (All-tail P x xs h))
    ]

-- what superinterfaces keep holds of all of them
pub walked_all : (P : ClassId → Type 0) (classes : List Class) → ((x : ClassId) → P x → All P (interfaces classes x))
    → (n : ℕ) (is : List ClassId) → All P is → All P (walked n classes is)
unfolding walked
walked_all P classes closed zero is h = All-nil P
walked_all P classes closed (suc n) is h =
    all_flat P (λ i. i ∷ walked n classes (interfaces classes i)) is
    (λ k d within.
    let i = get_or is k d in
    All-cons P i (walked n classes (interfaces classes i)) (h k d within)
    (walked_all P classes closed n (interfaces classes i) (closed i (h k d within))))

walked_valid : (classes : List Class) (n : ℕ) (is : List ClassId) → All (IsClass classes) is
    → All (IsClass classes) (walked n classes is)
walked_valid classes = walked_all (IsClass classes) classes (λ x h. interfaces_valid classes x)

pub own_valid : (classes : List Class) (a : ClassId)
    → All (IsClass classes) (each_once [] (own_superinterfaces classes a))
own_valid classes a = once_all (IsClass classes) (own_superinterfaces classes a) []
    (walked_valid classes highest (interfaces classes a) (interfaces_valid classes a))

pub filling_put : (classes : List Class) (f g : Filling) (a : ClassId) (place : ℕ) (ids : List ClassId)
    → AreSteps classes → IsFilling classes f → IsClass classes a → place ≡ number a
    → AreFilled f.filled.items (interfaces classes a)
    → ids ≡ each_once [] (flat_map (λ i. i ∷ list_at f.lists i) (interfaces classes a))
    → g.lists ≡ set f.lists place ids → g.filled.items ≡ set f.filled.items place true
    → g.met.count ≡ f.met.count → g.met.ids ≡ [] → IsFilling classes g
filling_put classes f g a place ids steps h a-in at filled ids-is lists-is filled-is count-is none-is =
    let ls : g.lists ≡ set f.lists (number a) ids = lists-is ∙ ap (λ (k : ℕ). set f.lists k ids) at in
    let fs : g.filled.items ≡ set f.filled.items (number a) true = filled-is
    ∙ ap (λ (k : ℕ). set f.filled.items k true) at in
    let own : ids ≡ each_once [] (own_superinterfaces classes a) = list_is classes f a ids steps h a-in filled ids-is in
    let low : number a < length library + length classes = (is_below classes a a-in).1 in
    let long-l = h.lists in
    let long-f = h.filled in
    record {
      few = h.few;
      lists = ap (λ (t : List (List ClassId)). length t) ls ∙ length-set f.lists (number a) ids ∙ h.lists;
      filled = ap (λ (t : List Bool). length t) fs ∙ length-set f.filled.items (number a) true ∙ h.filled;
      count = count-is ∙ h.count;
      none = none-is;
      there =
          subst (All (All (IsClass classes))) (sym ls)
          (All-set (All (IsClass classes)) f.lists (number a) ids
          (subst (All (IsClass classes)) (sym own) (own_valid classes a)) h.there);
      own = λ b b-in yes-b.
          ⊎_elim
          (λ same.
          let is : b ≡ a = same_place b a (is_there classes b b-in) (is_there classes a a-in) same in
          ap (λ (t : List (List ClassId)). get_or t (number b) []) ls
          ∙ ap (λ (k : ℕ). get_or (set f.lists (number a) ids) k []) same
          ∙ get_or-set_same f.lists (number a) ids [] (omega (arith, low, long-l))
          ∙ own
          ∙ ap (λ (x : ClassId). each_once [] (own_superinterfaces classes x)) (sym is))
          (λ other.
          ap (λ (t : List (List ClassId)). get_or t (number b) []) ls
          ∙ get_or-set_other f.lists (number a) (number b) ids [] other
          ∙ h.own b b-in
          (sym (ap (λ (t : List Bool). get_or t (number b) false) fs
          ∙ get_or-set_other f.filled.items (number a) (number b) true false other) ∙ yes-b))
          (cases_eq (number b) (number a));
    }

-- a class and its list have each class once, since no class is among its own superinterfaces
own_once : (classes : List Class) (r : HasRanks classes) (a : ClassId) → IsClass classes a
    → All (λ c. same_class c a ≡ false) (own_superinterfaces classes a)
own_once classes r a a-in =
    All-weaker (λ x. IsClass classes x × (r.rank x < r.rank a)) (λ x. same_class x a ≡ false)
    (λ x h. lower_differs r.rank x a h.1) (own_superinterfaces classes a)
    (walked_all (λ x. IsClass classes x × (r.rank x < r.rank a)) classes
    (λ x h k d within.
    let below = interfaces_fall classes r.rank x r.falls h.0 k d within in
    let low = h.1 in
    (interfaces_valid classes x k d within, omega (arith, below, low)))
    highest (interfaces classes a)
    (λ k d within. (interfaces_valid classes a k d within, interfaces_fall classes r.rank a r.falls a-in k d within)))

pub lists_once : (classes : List Class) → HasRanks classes → (f : Filling) (a : ClassId) (is : List ClassId)
    → IsFilling classes f → IsClass classes a → AreFilled f.filled.items (interfaces classes a)
    → is ≡ interfaces classes a → All (λ i. IsOnce (i ∷ list_at f.lists i)) is
lists_once classes r f a is h a-in filled is-is =
    subst (All (λ i. IsOnce (i ∷ list_at f.lists i))) (sym is-is)
    (λ k d within.
    let i = get_or (interfaces classes a) k d in
    let i-in = interfaces_valid classes a k d within in
    subst (λ (t : List ClassId). IsOnce (i ∷ t)) (sym (h.own i i-in (filled k d within)))
    (once_before i (own_superinterfaces classes i) (own_once classes r i i-in)))

pub filled_now : (filled new : List Bool) (a : ClassId) (place : ℕ) → number a < length filled → place ≡ number a
    → new ≡ set filled place true → is_filled new a ≡ true
filled_now filled new a place low at is =
    ap (λ (t : List Bool). get_or t (number a) false) (is ∙ ap (λ (k : ℕ). set filled k true) at)
    ∙ get_or-set_same filled (number a) true false low

pub filling_none : (classes : List Class) (f : Filling) (total : ℕ) → length classes ≤ 4294967295
    → total ≡ length library + length classes → length f.lists ≡ total → All (λ ids. ids ≡ []) f.lists
    → length f.filled.items ≡ total → All (λ b. b ≡ false) f.filled.items → f.met ≡ record { count = total; ids = [] }
    → IsFilling classes f
filling_none classes f total few count-is lists-long lists-none filled-long filled-none met-is = record {
  few = few;
  lists = lists-long ∙ count-is;
  filled = filled-long ∙ count-is;
  count = ap (λ (m : Classes). m.count) met-is ∙ count-is;
  none = ap (λ (m : Classes). m.ids) met-is;
  there = All-weaker (λ ids. ids ≡ []) (All (IsClass classes))
      (λ ids is. subst (All (IsClass classes)) (sym is) (All-nil (IsClass classes))) f.lists lists-none;
  own = λ a a-in yes-a.
      let low = (is_below classes a a-in).1 in
      absurd (both_ways _ (filled-none (number a) false (omega (arith, low, filled-long, count-is))) yes-a);
}

pub steps_of : (classes : List Class) → HasRanks classes → length classes ≤ 4294967295 → AreSteps classes
steps_of classes r few a a-in =
    let most = r.most a a-in in
    own_next classes r.rank a r.falls a-in (omega (arith, most, few, count))

pub own_of : (classes : List Class) (f : Filling) → IsFilling classes f
    → ((a : ClassId) → IsClass classes a → is_filled f.filled.items a ≡ true) → AreOwn classes f.lists
own_of classes f h full = record {
  count = h.lists;
  there = h.there;
  own = λ a a-in. h.own a a-in (full a a-in);
}

pub full_all : (classes : List Class) (f : Filling) → IsFilling classes f → All (λ b. b ≡ true) f.filled.items
    → (a : ClassId) → IsClass classes a → is_filled f.filled.items a ≡ true
full_all classes f h all a a-in =
    let low = (is_below classes a a-in).1 in
    let long = h.filled in
    all (number a) false (omega (arith, low, long))

-- where those of lower rank are filled, so are the interfaces of a class
pub filled_below : (classes : List Class) (r : HasRanks classes) (filled : List Bool) (n : ℕ) (a : ClassId)
    → ((b : ClassId) → IsClass classes b → r.rank b < n → is_filled filled b ≡ true) → IsClass classes a
    → r.rank a < n + 1 → AreFilled filled (interfaces classes a)
filled_below classes r filled n a low a-in a-low k d within =
    let below = interfaces_fall classes r.rank a r.falls a-in k d within in
    low (get_or (interfaces classes a) k d) (interfaces_valid classes a k d within) (omega (arith, below, a-low))

pub filled_at : (classes : List Class) (old filled new : List Bool) (place : ℕ) (x a : ClassId) → x ≡ id_at place
    → IsClass classes a → number a ≡ place
    → (AreFilled filled (interfaces classes x) → is_filled new x ≡ true) → AreFilled filled (interfaces classes a)
    → is_filled new a ≡ true
filled_at classes old filled new place x a x-is a-in same h all =
    let is : x ≡ a = x-is ∙ ap id_at (sym same) ∙ id_at_number classes a a-in in
    subst (λ (y : ClassId). AreFilled filled (interfaces classes y) → is_filled new y ≡ true) is h all

pub named_put : (classes : List Class) (names : List (List ℕ)) (i : ℕ) (x : List ℕ) (ids new : List ClassId)
    → i < length names → x ≡ get_or names i x → ids ≡ classes_named classes (take i names)
    → new ≡ ids ++ classes_named classes (x ∷ []) → new ≡ classes_named classes (take (i + 1) names)
named_put classes names i x ids new within at before put =
    put
    ∙ ap (λ (t : List ClassId). t ++ classes_named classes (x ∷ [])) before
    ∙ sym (filter_map-append (class_named classes) (take i names) (x ∷ []))
    ∙ ap (classes_named classes)
    (sym (take_more names i x within ∙ ap (λ (n : List ℕ). take i names ++ n ∷ []) (sym at)))

-- ---- what is read

pub below_as : (classes : List Class) (a : ClassId) (n : ℕ) (ids : List ClassId) → ids ≡ interfaces classes a
    → n ≡ length library + length classes → All (IsBelow n) ids
below_as classes a n ids is e =
    subst (λ (m : ℕ). All (IsBelow m) ids) (sym e)
    (subst (All (IsBelow (length library + length classes))) (sym is)
    (below_all classes (interfaces classes a) (interfaces_valid classes a)))

all_list : (p : ClassId → Bool) (xs : List ClassId) → All (λ x. p x ≡ true) xs → list_all p xs ≡ true
all_list p [] h = refl
all_list p (x ∷ xs) h = ap (λ (b : Bool). b && list_all p xs) (All-head (λ y. p y ≡ true) x xs h)
    ∙ all_list p xs (All-tail (λ y. p y ≡ true) x xs h)

list_to_all : (p : ClassId → Bool) (xs : List ClassId) → list_all p xs ≡ true → All (λ x. p x ≡ true) xs
list_to_all p [] h = All-nil (λ x. p x ≡ true)
list_to_all p (x ∷ xs) h = let parts = and_parts (p x) (list_all p xs) h in All-cons (λ y. p y ≡ true) x xs parts.0
    (list_to_all p xs parts.1)

filled_read : (fs filled : List Bool) (ids is : List ClassId) (r : Bool) → fs ≡ filled → ids ≡ is
    → r ≡ list_all (is_filled fs) ids → r ≡ list_all (is_filled filled) is
filled_read fs filled ids is r fs-is ids-is r-is = r-is ∙ ap (λ (t : List Bool). list_all (is_filled t) ids) fs-is
    ∙ ap (list_all (is_filled filled)) ids-is

pub not_filled : (fs filled : List Bool) (ids is : List ClassId) (r : Bool) → fs ≡ filled → ids ≡ is
    → r ≡ list_all (is_filled fs) ids → r ≡ false → AreFilled filled is → ⊥
not_filled fs filled ids is r fs-is ids-is r-is off all = both_ways r off
    (filled_read fs filled ids is r fs-is ids-is r-is ∙ all_list (is_filled filled) is all)

pub all_filled : (fs filled : List Bool) (ids is : List ClassId) (r : Bool) → fs ≡ filled → ids ≡ is
    → r ≡ list_all (is_filled fs) ids → r ≡ true → AreFilled filled is
all_filled fs filled ids is r fs-is ids-is r-is is-true = list_to_all (is_filled filled) is
    (sym (filled_read fs filled ids is r fs-is ids-is r-is) ∙ is-true)

pub list_read : (lists : List (List ClassId)) (x y : ClassId) (n : ℕ) (t : List ClassId) → slice_get lists n ≡ Some t
    → n ≡ number x → x ≡ y → t ≡ list_at lists y
list_read lists x y n t is n-is same = sym (get_or_from_slice_get lists n t [] is)
    ∙ ap (λ (k : ℕ). get_or lists k []) (n-is ∙ ap number same)

-- ---- the lists of a set

pub own_place : (classes : List Class) (lists : List (List ClassId)) (a : ClassId) (n : ℕ) → AreOwn classes lists
    → IsClass classes a → n ≡ number a → n < length lists
own_place classes lists a n h a-in at =
    let low = (is_below classes a a-in).1 in
    let long = h.count in
    omega (arith, low, long, at)

pub own_read : (classes : List Class) (lists : List (List ClassId)) (a : ClassId) (n : ℕ) (ids : List ClassId)
    → AreOwn classes lists → IsClass classes a → n ≡ number a → slice_get lists n ≡ Some ids
    → ids ≡ each_once [] (own_superinterfaces classes a)
own_read classes lists a n ids h a-in at is = sym (get_or_from_slice_get lists n ids [] is)
    ∙ ap (λ (k : ℕ). get_or lists k []) at ∙ h.own a a-in

pub own_there : (classes : List Class) (a : ClassId) (ids : List ClassId)
    → ids ≡ each_once [] (own_superinterfaces classes a) → All (IsClass classes) ids
own_there classes a ids is = subst (All (IsClass classes)) (sym is) (own_valid classes a)
