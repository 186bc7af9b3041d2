-- The numbers of direct supertypes.
use Rattle.std.proofs.Common.{◌≡◌, ⊎_elim, ℕ, ◌+◌, ◌<◌, ◌≤◌, Bool, true, IsTrue, List, [], ◌∷◌, ◌++◌, length, get_or}
use Rattle.std.proofs.Common.{take, slice_get, Option, Some, None, refl, sym, ap, subst, ◌∙◌, arith}
use Rattle.std.specs.Prelude.{slice_index_or}
use Rattle.std.specs.List.{All, cons_option, filter_map}
use Rattle.std.specs.Option.{option_map, option_and_then, option_map_or}
use Rattle.std.proofs.lemmas.List.{take_more, get_or_default, get_or_past}
use Rattle.std.proofs.lemmas.List.Elements.{All-cons, All-tail, filter_map-append}
use Rattle.std.proofs.lemmas.Option.{slice_get_cases}
use Rattle.mark_core.specs.declared.system.System.{System}
use Rattle.mark_core.specs.Marks.{needs_of}
use Rattle.mark_core.specs.Valid.{Valid}
use Rattle.class_model.specs.declared.class.Class.{Class}
use Rattle.lib_table.specs.Lookups as table
use Rattle.class_pool.specs.declared.id.ClassId.{ClassId}
use Rattle.class_pool.specs.declared.id.ClassId.TheVariants.{Prog, Lib}
use Rattle.class_pool.specs.Hierarchy.{class_named, classes_named, or_found}
use Rattle.class_pool.specs.bodies.Numbers.{IsHierarchy, above, number_named, numbers_named}
use Rattle.class_pool.specs.Supertypes.{direct}
use Rattle.class_pool.proofs.Naming.{number_below}

pub above_more : (classes : List Class) (first name : List ℕ) (names : List (List ℕ)) (i : ℕ) → i < length names
    → name ≡ get_or names i name
    → numbers_named classes (first ∷ take i names) ++ numbers_named classes (name ∷ [])
    ≡ numbers_named classes (first ∷ take (i + 1) names)
above_more classes first name names i within is =
    sym (filter_map-append (number_named classes) (first ∷ take i names) (name ∷ []))
    ∙ ap (λ (t : List (List ℕ)). numbers_named classes (first ∷ t))
    (sym (take_more names i name within ∙ ap (λ (n : List ℕ). take i names ++ n ∷ []) (sym is)))

none : {X : Type 0} (P : X → Type 0) → All P []
none P k d within = absurd (omega (arith, within))

below_step : (m : ℕ) (o : Option ℕ) (xs : List ℕ) → ((x : ℕ) → o ≡ Some x → x < m) → All (λ x. x < m) xs
    → All (λ x. x < m) (cons_option o xs)
below_step m (Some x) xs first others = All-cons (λ y. y < m) x xs (first x refl) others
below_step m None xs first others = others

pub above_below : (classes : List Class) (names : List (List ℕ))
    → All (λ x. x < length classes) (numbers_named classes names)
above_below classes [] = none (λ x. x < length classes)
above_below classes (name ∷ names) =
    below_step (length classes) (number_named classes name) (numbers_named classes names)
    (λ x is. number_below classes name x is) (above_below classes names)

needs_below : (classes : List Class) (sys : System) (k : ℕ) (d : List ℕ) → IsHierarchy classes sys
    → k < length sys.needs → All (λ x. x < sys.n) (slice_index_or sys.needs k d)
needs_below classes sys k d h within =
    ⊎_elim
    (λ p. subst (All (λ x. x < sys.n)) (sym (get_or_default sys.needs k d [] within ∙ h.needs k p.0 p.2))
    (subst (λ m. All (λ x. x < m) (above classes p.0)) (sym h.count)
    (above_below classes (p.0.super_name ∷ p.0.interfaces))))
    (λ p. absurd (omega (arith, within, h.lists, p.0)))
    (slice_get_cases classes k).1

pub valid : (classes : List Class) (sys : System) → IsHierarchy classes sys → Valid sys
valid classes sys h = (
  h.lists ∙ sym h.count,
  subst (λ m. All (λ x. x < m) sys.seeds) (sym h.count) h.seeds,
  λ k d within. needs_below classes sys k d h within,
  λ k d within. absurd (omega (arith, within, ap length h.pairs)),
)

-- the same system, with the direct supertypes of a class as its seeds
pub seeded : (classes : List Class) (c : Class) (sys : System) (seeds : List ℕ) → IsHierarchy classes sys
    → seeds ≡ above classes c → IsHierarchy classes (record sys { seeds = seeds })
seeded classes c sys seeds h is = record {
  count = h.count;
  lists = h.lists;
  needs = h.needs;
  pairs = h.pairs;
  seeds = subst (All (λ x. x < length classes)) (sym is) (above_below classes (c.super_name ∷ c.interfaces));
}

-- the needs of an item that is none
pub no_needs : (classes : List Class) (sys : System) (k : ℕ) → IsHierarchy classes sys → length classes ≤ k
    → needs_of sys k ≡ []
no_needs classes sys k h over = get_or_past sys.needs k [] (omega (arith, over, h.lists))

pub direct_of : (classes : List Class) (n : ℕ) (c : Class) → slice_get classes n ≡ Some c
    → direct classes (Prog n) ≡ classes_named classes (c.super_name ∷ c.interfaces)
direct_of classes n c is =
    ap (λ (o : Option Class). cons_option (option_and_then (λ x. class_named classes x.super_name) o)
    (option_map_or (λ x. classes_named classes x.interfaces) o [])) is

pub direct_none : (classes : List Class) (n : ℕ) → slice_get classes n ≡ None → direct classes (Prog n) ≡ []
direct_none classes n is =
    ap (λ (o : Option Class). cons_option (option_and_then (λ x. class_named classes x.super_name) o)
    (option_map_or (λ x. classes_named classes x.interfaces) o [])) is

-- a test of numbers as one of classes, that every library class passes
abbrev pub lifted : (ℕ → Bool) → ClassId → Bool
lifted set (Prog n) = set n
lifted set (Lib id) = true

down_step : (set : ClassId → Bool) (o t : Option ℕ) (ids : List ClassId) (ns : List ℕ)
    → (All (λ b. IsTrue (set b)) ids → All (λ n. IsTrue (set (Prog n))) ns)
    → All (λ b. IsTrue (set b)) (cons_option (or_found o (option_map Lib t)) ids)
    → All (λ n. IsTrue (set (Prog n))) (cons_option o ns)
down_step set (Some n) t ids ns others all =
    All-cons (λ m. IsTrue (set (Prog m))) n ns (all 0 (Prog n) (omega arith))
    (others (All-tail (λ b. IsTrue (set b)) (Prog n) ids all))
down_step set None (Some id) ids ns others all = others (All-tail (λ b. IsTrue (set b)) (Lib id) ids all)
down_step set None None ids ns others all = others all

-- what holds of the supertypes holds of those in the set
pub down : (classes : List Class) (set : ClassId → Bool) (names : List (List ℕ))
    → All (λ b. IsTrue (set b)) (classes_named classes names)
    → All (λ n. IsTrue (set (Prog n))) (numbers_named classes names)
down classes set [] all = none (λ n. IsTrue (set (Prog n)))
down classes set (name ∷ names) all =
    down_step set (number_named classes name) (table.class_named name) (classes_named classes names)
    (numbers_named classes names) (down classes set names) all

up_step : (set : ℕ → Bool) (o t : Option ℕ) (ids : List ClassId) (ns : List ℕ)
    → (All (λ n. IsTrue (set n)) ns → All (λ b. IsTrue (lifted set b)) ids)
    → All (λ n. IsTrue (set n)) (cons_option o ns)
    → All (λ b. IsTrue (lifted set b)) (cons_option (or_found o (option_map Lib t)) ids)
up_step set (Some n) t ids ns others all =
    All-cons (λ b. IsTrue (lifted set b)) (Prog n) ids (all 0 n (omega arith))
    (others (All-tail (λ m. IsTrue (set m)) n ns all))
up_step set None (Some id) ids ns others all = All-cons (λ b. IsTrue (lifted set b)) (Lib id) ids refl (others all)
up_step set None None ids ns others all = others all

-- and the other way round, where every library class passes
pub up : (classes : List Class) (set : ℕ → Bool) (names : List (List ℕ))
    → All (λ n. IsTrue (set n)) (numbers_named classes names)
    → All (λ b. IsTrue (lifted set b)) (classes_named classes names)
up classes set [] all = none (λ b. IsTrue (lifted set b))
up classes set (name ∷ names) all =
    up_step set (number_named classes name) (table.class_named name) (classes_named classes names)
    (numbers_named classes names) (up classes set names) all

all_library : (set : ℕ → Bool) (ids : List ℕ) → All (λ b. IsTrue (lifted set b)) (filter_map (λ i. Some (Lib i)) ids)
all_library set [] = none (λ b. IsTrue (lifted set b))
all_library set (id ∷ ids) = All-cons (λ b. IsTrue (lifted set b)) (Lib id) (filter_map (λ i. Some (Lib i)) ids) refl
    (all_library set ids)

first_library : (set : ℕ → Bool) (o : Option ℕ) (ids : List ClassId) → All (λ b. IsTrue (lifted set b)) ids
    → All (λ b. IsTrue (lifted set b)) (cons_option (option_map Lib o) ids)
first_library set (Some id) ids others = All-cons (λ b. IsTrue (lifted set b)) (Lib id) ids refl others
first_library set None ids others = others

-- the supertypes of a library class are library classes
pub library_up : (classes : List Class) (set : ℕ → Bool) (id : ℕ)
    → All (λ b. IsTrue (lifted set b)) (direct classes (Lib id))
library_up classes set id = first_library set (table.super_of id)
    (filter_map (λ i. Some (Lib i)) (table.interfaces_of id)) (all_library set (table.interfaces_of id))
