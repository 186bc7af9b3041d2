-- What is met where the superclasses of a class are gone over, each with the superinterfaces that it has itself.
use Rattle.std.proofs.Common.{◌≡◌, ℕ, ◌-◌, ◌<◌, ◌==◌, ◌||◌, ◌&&◌, not, Bool, true, false, cond, List, [], ◌∷◌, ◌++◌}
use Rattle.std.proofs.Common.{◌+◌, All, length, get_or, take, Option, Some, None, refl, sym, ap, subst, ◌∙◌, arith}
use Rattle.std.proofs.Common.{append_assoc, append-nil}
use Rattle.std.specs.List.{AllByRecursion, cons_option, filter, filter_map, flat_map, list_any}
use Rattle.std.specs.Option.{option_map_or}
use Rattle.std.proofs.lemmas.Bool.{eq-eqb, eqb-true}
use Rattle.std.proofs.lemmas.List.Elements.{filter-append, filter_map-append}
use Rattle.std.proofs.lemmas.List.Folds.{list_any-append}
use Rattle.std.proofs.Math.Bool.{and-false}
use Rattle.jv_base.proofs.Lists.{all_append, flat_more}
use Rattle.class_model.specs.declared.class.Class.{Class}
use Rattle.class_pool.specs.Hierarchy.{IsClass, superclass}
use Rattle.class_pool.specs.Supers.{is_below}
use Rattle.class_pool.specs.Walk.{each_once, own_superinterfaces, same_class, superclasses_from, superinterfaces}
use Rattle.class_pool.specs.Walk.{upwards}
use Rattle.class_pool.specs.declared.id.ClassId.{ClassId}
use Rattle.class_pool.specs.declared.id.ClassId.TheVariants.{Prog, Lib}
use Rattle.class_pool.proofs.Among.{any_once}
use Rattle.class_pool.proofs.EachOnce.{once_append, once_none, once_one, once_twice}
use Rattle.class_pool.proofs.FillingLaws.{own_valid, once_then}
use Rattle.class_pool.proofs.SupersLaws.{chain_valid}
use Rattle.class_pool.proofs.Climbing.{upwards_none, upwards_step}
use Rattle.require_sys.specs.Requires.{is_program, library_supers}
use Rattle.item_numbers.specs.bodies.Supers.{is_library, is_new, other_number, own_once}
use Rattle.item_numbers.specs.bodies.Wanting.{has}
use Rattle.require_sys.proofs.Parts.{from_all}
use Rattle.require_sys.proofs.Steps.{more_of}

-- ---- a walk upwards

-- one step
pub chain_goes : (classes : List Class) (n k : ℕ) (class : ClassId) (ids new whole : List ClassId)
    (next above : Option ClassId) → 0 < n → k ≡ n - 1 → next ≡ Some class → above ≡ superclass classes class
    → new ≡ ids ++ class ∷ [] → ids ++ option_map_or (upwards n classes) next [] ≡ whole
    → new ++ option_map_or (upwards k classes) above [] ≡ whole
chain_goes classes n k class ids new whole next above some less is up put so_far =
    ap (λ (t : List ClassId). t ++ option_map_or (upwards k classes) above []) put
    ∙ append_assoc ids (class ∷ []) (option_map_or (upwards k classes) above [])
    ∙ ap (λ (t : List ClassId). ids ++ t)
    (ap (λ (m : ℕ). class ∷ option_map_or (upwards m classes) above []) less
    ∙ ap (λ (o : Option ClassId). class ∷ option_map_or (upwards (n - 1) classes) o []) up
    ∙ sym (upwards_step n classes class some)
    ∙ sym (ap (λ (o : Option ClassId). option_map_or (upwards n classes) o []) is))
    ∙ so_far

-- no class stands further up
pub chain_ends : (classes : List Class) (n : ℕ) (ids whole : List ClassId) (next : Option ClassId) → next ≡ None
    → ids ++ option_map_or (upwards n classes) next [] ≡ whole → ids ≡ whole
chain_ends classes n ids whole next none so_far =
    sym (append-nil ids)
    ∙ ap (λ (o : Option ClassId). ids ++ option_map_or (upwards n classes) o []) (sym none) ∙ so_far

-- no step is left
pub chain_stops : (classes : List Class) (n : ℕ) (ids whole : List ClassId) (next : Option ClassId) → n ≡ 0
    → ids ++ option_map_or (upwards n classes) next [] ≡ whole → ids ≡ whole
chain_stops classes n ids whole next none so_far =
    sym (append-nil ids)
    ∙ ap (λ (t : List ClassId). ids ++ t) (sym (upwards_none classes next))
    ∙ ap (λ (m : ℕ). ids ++ option_map_or (upwards m classes) next []) (sym none) ∙ so_far

pub chain_there : (classes : List Class) (n : ℕ) (chain : List ClassId) → IsClass classes (Prog n)
    → chain ≡ superclasses_from classes (Prog n) → All (IsClass classes) chain
chain_there classes n chain n-in is = λ k d within.
    let there = chain_valid classes (Prog n) n-in k d in
    let long = ap (λ (t : List ClassId). length t) is in
    subst (IsClass classes) (ap (λ (t : List ClassId). get_or t k d) (sym is)) (there (omega (arith, long, within)))

-- ---- lists that grow

-- one more that may give nothing
pub optional_more : {X Y : Type 0} (h : X → Option Y) (xs : List X) (i : ℕ) (x : X) (old ys zs : List Y) → i < length xs
    → x ≡ get_or xs i x → ys ≡ old ++ filter_map h (take i xs) → zs ≡ ys ++ cons_option (h x) []
    → zs ≡ old ++ filter_map h (take (i + 1) xs)
optional_more h xs i x old ys zs lt at is grown =
    grown ∙ ap (λ t. t ++ cons_option (h x) []) is
    ∙ append_assoc old (filter_map h (take i xs)) (cons_option (h x) [])
    ∙ ap (λ t. old ++ t) (sym (filter_map-append h (take i xs) (x ∷ [])))
    ∙ ap (λ t. old ++ filter_map h t) (sym (more_of xs i x lt at))

-- those of one more list
pub list_more : {X Y Z : Type 0} (h : Y → Option Z) (g : X → List Y) (xs : List X) (i : ℕ) (x : X) (old ys zs : List Z)
    → i < length xs → x ≡ get_or xs i x → ys ≡ old ++ filter_map h (flat_map g (take i xs))
    → zs ≡ ys ++ filter_map h (g x) → zs ≡ old ++ filter_map h (flat_map g (take (i + 1) xs))
list_more h g xs i x old ys zs lt at is grown =
    grown ∙ ap (λ t. t ++ filter_map h (g x)) is
    ∙ append_assoc old (filter_map h (flat_map g (take i xs))) (filter_map h (g x))
    ∙ ap (λ t. old ++ t) (sym (filter_map-append h (flat_map g (take i xs)) (g x)))
    ∙ ap (λ t. old ++ filter_map h t) (flat_more g xs i x lt at)

pub both_mapped : {X Y : Type 0} (h : X → Option Y) (xs zs : List X) (one two : List Y)
    → one ≡ [] ++ filter_map h xs → two ≡ one ++ filter_map h zs → two ≡ filter_map h (xs ++ zs)
both_mapped h xs zs one two first second =
    second ∙ ap (λ t. t ++ filter_map h zs) first ∙ sym (filter_map-append h xs zs)

only_new : (old : List ClassId) (id : ClassId)
    → each_once old (filter is_library (id ∷ [])) ≡ cond (is_new old id) (id ∷ []) []
only_new old id = by (is_library id)
  where
    flip : (b : Bool) → ◌≡◌ {A = List ClassId} (cond b [] (id ∷ [])) (cond (not b) (id ∷ []) [])
    flip true = refl
    flip false = refl

    by : (l : Bool) → each_once old (cond l (id ∷ []) [])
        ≡ cond (l && not (list_any (same_class id) old)) (id ∷ []) []
    by true = once_one old id ∙ flip (list_any (same_class id) old)
    by false = once_none old

-- a class that is new
pub library_put : (old new : List ClassId) (id : ClassId) → is_new old id ≡ true → new ≡ old ++ id ∷ []
    → new ≡ old ++ each_once old (filter is_library (id ∷ []))
library_put old new id is put =
    put ∙ ap (λ (t : List ClassId). old ++ t)
    (sym (only_new old id ∙ ap (λ (b : Bool). cond b (id ∷ []) []) is))

-- and one that isn't
pub library_left : (old : List ClassId) (id : ClassId) → is_new old id ≡ false
    → old ≡ old ++ each_once old (filter is_library (id ∷ []))
library_left old id is =
    sym (ap (λ (t : List ClassId). old ++ t)
    (only_new old id ∙ ap (λ (b : Bool). cond b (id ∷ []) []) is) ∙ append-nil old)

pub library_more : (s xs : List ClassId) (i : ℕ) (x : ClassId) (ids new : List ClassId) → i < length xs
    → x ≡ get_or xs i x → ids ≡ s ++ each_once s (filter is_library (take i xs))
    → new ≡ ids ++ each_once ids (filter is_library (x ∷ []))
    → new ≡ s ++ each_once s (filter is_library (take (i + 1) xs))
library_more s xs i x ids new lt at is more =
    once_then s (filter is_library (take i xs)) (filter is_library (x ∷ [])) ids new is more
    ∙ ap (λ (t : List ClassId). s ++ each_once s t)
    (sym (filter-append is_library (take i xs) (x ∷ []))
    ∙ ap (filter is_library) (sym (more_of xs i x lt at)))

pub libraries_more : (g : ClassId → List ClassId) (front xs : List ClassId) (i : ℕ) (x : ClassId)
    (ids new : List ClassId) → i < length xs → x ≡ get_or xs i x
    → ids ≡ each_once [] (filter is_library (front ++ flat_map g (take i xs)))
    → new ≡ ids ++ each_once ids (filter is_library (g x))
    → new ≡ each_once [] (filter is_library (front ++ flat_map g (take (i + 1) xs)))
libraries_more g front xs i x ids new lt at is more =
    once_then [] (filter is_library (front ++ flat_map g (take i xs))) (filter is_library (g x)) ids new is more
    ∙ ap (each_once [])
    (sym (filter-append is_library (front ++ flat_map g (take i xs)) (g x))
    ∙ ap (filter is_library)
    (append_assoc front (flat_map g (take i xs)) (g x)
    ∙ ap (λ (t : List ClassId). front ++ t) (flat_more g xs i x lt at)))

pub libraries_first : (front ids : List ClassId) → ids ≡ [] ++ each_once [] (filter is_library front)
    → ids ≡ each_once [] (filter is_library (front ++ []))
libraries_first front ids is =
    is ∙ ap (λ (t : List ClassId). each_once [] (filter is_library t)) (sym (append-nil front))

-- ---- numbers of classes

module _ (own z : ℕ) where
  -- a number that isn't the own one
  pub other_any : (ids : List ClassId) → has z (filter_map (other_number own) ids)
      ≡ (list_any (same_class (Prog z)) ids && not (own == z))
  other_any [] = refl
  other_any (Lib id ∷ ids) = other_any ids
  other_any (Prog n ∷ ids) = by (n == own) refl (z == n) refl (own == z) refl (other_any ids)
    where
      rest : List ℕ
      rest = filter_map (other_number own) ids

      by : (s : Bool) → (n == own) ≡ s → (b : Bool) → (z == n) ≡ b → (o : Bool) → (own == z) ≡ o
          → has z rest ≡ (list_any (same_class (Prog z)) ids && not (own == z))
          → has z (cons_option (cond s None (Some n)) rest)
          ≡ ((b || list_any (same_class (Prog z)) ids) && not (own == z))
      by true e true f true g r =
          r ∙ ap (λ (t : Bool). list_any (same_class (Prog z)) ids && not t) g
          ∙ and-false (list_any (same_class (Prog z)) ids) ∙ sym (ap not g)
      by true e true f false g r =
          absurd (let h = eq-eqb own z (sym (eqb-true z n f ∙ eqb-true n own e)) in cc)
      by true e false f o g r = r
      by false e true f true g r =
          absurd (let h = eq-eqb n own (sym (eqb-true z n f) ∙ sym (eqb-true own z g)) in cc)
      by false e true f false g r = ap (λ (t : Bool). t || has z rest) f ∙ sym (ap not g)
      by false e false f o g r = ap (λ (t : Bool). t || has z rest) f ∙ r

-- ---- what is met

any_own : (classes : List Class) (y : ClassId) (cs : List ClassId)
    → list_any (same_class y) (flat_map (own_once classes) cs)
    ≡ list_any (same_class y) (flat_map (own_superinterfaces classes) cs)
any_own classes y [] = refl
any_own classes y (c ∷ cs) =
    list_any-append (same_class y) (own_once classes c) (flat_map (own_once classes) cs)
    ∙ ap (λ (b : Bool). b || list_any (same_class y) (flat_map (own_once classes) cs))
    (any_once y (own_superinterfaces classes c))
    ∙ ap (λ (b : Bool). list_any (same_class y) (own_superinterfaces classes c) || b) (any_own classes y cs)
    ∙ sym (list_any-append (same_class y) (own_superinterfaces classes c)
    (flat_map (own_superinterfaces classes) cs))

-- it is all that stands above the class, and the class itself
pub below_met : (classes : List Class) (n : ℕ) (y : ClassId)
    → list_any (same_class y) (superclasses_from classes (Prog n)
    ++ flat_map (own_once classes) (superclasses_from classes (Prog n))) ≡ is_below classes (Prog n) y
below_met classes n y =
    list_any-append (same_class y) (superclasses_from classes (Prog n))
    (flat_map (own_once classes) (superclasses_from classes (Prog n)))
    ∙ ap (λ (b : Bool). list_any (same_class y) (superclasses_from classes (Prog n)) || b)
    (any_own classes y (superclasses_from classes (Prog n)))
    ∙ sym (list_any-append (same_class y) (superclasses_from classes (Prog n)) (superinterfaces classes (Prog n)))

own_met : (classes : List Class) (cs : List ClassId) → AllByRecursion (IsClass classes) (flat_map (own_once classes) cs)
own_met classes [] = tt
own_met classes (c ∷ cs) =
    all_append (IsClass classes) (own_once classes c) (flat_map (own_once classes) cs)
    (from_all (IsClass classes) (own_once classes c) (own_valid classes c)) (own_met classes cs)

pub met_there : (classes : List Class) (n : ℕ) → IsClass classes (Prog n)
    → AllByRecursion (IsClass classes) (superclasses_from classes (Prog n)
    ++ flat_map (own_once classes) (superclasses_from classes (Prog n)))
met_there classes n n-in =
    all_append (IsClass classes) (superclasses_from classes (Prog n))
    (flat_map (own_once classes) (superclasses_from classes (Prog n)))
    (from_all (IsClass classes) (superclasses_from classes (Prog n)) (chain_valid classes (Prog n) n-in))
    (own_met classes (superclasses_from classes (Prog n)))

-- ---- classes of the library

filter_once : (xs s t : List ClassId)
    → ((y : ClassId) → is_program y ≡ false → list_any (same_class y) s ≡ list_any (same_class y) t)
    → filter is_library (each_once s xs) ≡ each_once t (filter is_library xs)
unfolding each_once
filter_once [] s t h = refl
filter_once (Prog n ∷ xs) s t h =
    by (list_any (same_class (Prog n)) s) (filter_once xs s t h) (filter_once xs (Prog n ∷ s) t with_own)
  where
    with_own : (y : ClassId) → is_program y ≡ false
        → (same_class y (Prog n) || list_any (same_class y) s) ≡ list_any (same_class y) t
    with_own (Lib id) e = h (Lib id) e
    with_own (Prog k) e = absurd cc

    by : (b : Bool) → filter is_library (each_once s xs) ≡ each_once t (filter is_library xs)
        → filter is_library (each_once (Prog n ∷ s) xs) ≡ each_once t (filter is_library xs)
        → filter is_library (cond b (each_once s xs) (Prog n ∷ each_once (Prog n ∷ s) xs))
        ≡ each_once t (filter is_library xs)
    by true one two = one
    by false one two = two
filter_once (Lib id ∷ xs) s t h =
    by (list_any (same_class (Lib id)) s) (list_any (same_class (Lib id)) t) (h (Lib id) refl) (filter_once xs s t h)
    (filter_once xs (Lib id ∷ s) (Lib id ∷ t) (λ y e. ap (λ (b : Bool). same_class y (Lib id) || b) (h y e)))
  where
    by : (b c : Bool) → b ≡ c → filter is_library (each_once s xs) ≡ each_once t (filter is_library xs)
        → filter is_library (each_once (Lib id ∷ s) xs) ≡ each_once (Lib id ∷ t) (filter is_library xs)
        → filter is_library (cond b (each_once s xs) (Lib id ∷ each_once (Lib id ∷ s) xs))
        ≡ cond c (each_once t (filter is_library xs)) (Lib id ∷ each_once (Lib id ∷ t) (filter is_library xs))
    by true true e one two = one
    by false false e one two = ap (λ (ys : List ClassId). Lib id ∷ ys) two
    by true false e one two = absurd cc
    by false true e one two = absurd cc

no_program : (n : ℕ) (y : ClassId) → is_program y ≡ false → (same_class y (Prog n) || false) ≡ false
no_program n (Lib id) e = refl
no_program n (Prog k) e = absurd cc

pub library_once : (classes : List Class) (n : ℕ) → library_supers classes (Prog n)
    ≡ each_once [] (filter is_library (superclasses_from classes (Prog n) ++ superinterfaces classes (Prog n)))
library_once classes n =
    filter_once (superclasses_from classes (Prog n) ++ superinterfaces classes (Prog n)) (Prog n ∷ []) []
    (no_program n)

once_flat : (g : ClassId → List ClassId) (xs s : List ClassId)
    → each_once s (flat_map (λ c. each_once [] (g c)) xs) ≡ each_once s (flat_map g xs)
once_flat g [] s = refl
once_flat g (x ∷ xs) s =
    once_append (each_once [] (g x)) (flat_map (λ c. each_once [] (g c)) xs) s
    ∙ ap (λ (t : List ClassId). t ++ each_once (s ++ t) (flat_map (λ c. each_once [] (g c)) xs)) (once_twice s (g x))
    ∙ ap (λ (t : List ClassId). each_once s (g x) ++ t) (once_flat g xs (s ++ each_once s (g x)))
    ∙ sym (once_append (g x) (flat_map g xs) s)

-- those of the library that are met are those above the class
pub library_are : (classes : List Class) (n : ℕ) (chain ids : List ClassId)
    → chain ≡ superclasses_from classes (Prog n)
    → ids ≡ each_once [] (filter is_library (chain ++ flat_map (own_once classes) chain))
    → ids ≡ library_supers classes (Prog n)
library_are classes n chain ids up is =
    let above : List ClassId = superclasses_from classes (Prog n) in
    let first : List ClassId = each_once (Prog n ∷ []) above in
    is
    ∙ ap (λ (cs : List ClassId). each_once [] (filter is_library (cs ++ flat_map (own_once classes) cs))) up
    ∙ sym (filter_once (above ++ flat_map (own_once classes) above) (Prog n ∷ []) [] (no_program n))
    ∙ ap (filter is_library)
    (once_append above (flat_map (own_once classes) above) (Prog n ∷ [])
    ∙ ap (λ (t : List ClassId). first ++ t)
    (once_flat (own_superinterfaces classes) above ((Prog n ∷ []) ++ first))
    ∙ sym (once_append above (flat_map (own_superinterfaces classes) above) (Prog n ∷ [])))
