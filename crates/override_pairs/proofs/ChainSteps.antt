-- How many steps classes are above others.
use Rattle.std.proofs.Common.{◌≡◌, ℕ, zero, suc, ◌<◌, ◌≤◌, ◌||◌, Bool, true, false, List, [], ◌∷◌, length, get_or, set}
use Rattle.std.proofs.Common.{slice_get, Option, Some, None, refl, sym, ap, subst, ◌∙◌, arith, eqb, lit<}
use Rattle.std.proofs.Common.{get_or-set_same, get_or-set_other, length-set}
use Rattle.std.specs.Prelude.{IfSome}
use Rattle.std.specs.List.{AllByRecursion, list_any}
use Rattle.std.specs.Option.{option_map_or}
use Rattle.std.proofs.lemmas.Bool.{eq-eqb, eqb-true, or_right}
use Rattle.std.proofs.lemmas.Option.{get_or_from_slice_get, same_Some, slice_get_within}
use Rattle.class_model.specs.declared.class.Class.{Class}
use Rattle.class_pool.specs.Hierarchy.{IsClass, interfaces, superclass}
use Rattle.class_pool.specs.Ranks.{HasRanks}
use Rattle.class_pool.specs.Walk.{highest, same_class, superclasses_from, upwards}
use Rattle.class_pool.specs.declared.id.ClassId.{ClassId}
use Rattle.class_pool.specs.declared.id.ClassId.TheVariants.{Prog}
use Rattle.class_pool.proofs.Climbing.{upwards_step}
use Rattle.class_pool.proofs.Declaring.{superclass_there}
use Rattle.class_pool.proofs.EachOnce.{same_itself}
use Rattle.class_pool.proofs.Walking.{first_of}
use Rattle.link_check.proofs.OverridingLaws.{class_Decides}
use Rattle.item_numbers.specs.bodies.Tops.{AreAbove, AreGiven}
use Rattle.override_pairs.specs.bodies.Above.{AreSteps}

-- ---- a table of steps

own_first : (classes : List Class) (n : ℕ) → slice_get (superclasses_from classes (Prog n)) 0 ≡ Some (Prog n)
own_first classes n = ap (λ (cs : List ClassId). slice_get cs 0) (upwards_step highest classes (Prog n) (lit< tt))

-- each class is no step above itself
pub own_steps : (classes : List Class) (below steps : List ℕ) → AreGiven (λ n x. x ≡ n) (length classes) below
    → length steps ≡ length classes → ((n : ℕ) → n < length classes → get_or steps n 0 ≡ 0)
    → AreSteps classes below steps
own_steps classes below steps own count zeroes = record {
  count = count;
  each = λ n lt.
      (λ i. slice_get (superclasses_from classes (Prog (own.each n lt i))) (zeroes n lt i)) ∙ own_first classes n;
}

-- one class is noted
pub step_put : (classes : List Class) (below steps below-new steps-new : List ℕ) (i t k : ℕ) → AreAbove classes below
    → AreSteps classes below steps → i < length classes
    → slice_get (superclasses_from classes (Prog t)) k ≡ Some (Prog i) → below-new ≡ set below i t
    → steps-new ≡ set steps i k → AreSteps classes below-new steps-new
step_put classes below steps below-new steps-new i t k above are i-in at put step-put = record {
  count = ap (λ (xs : List ℕ). length xs) step-put ∙ length-set steps i k ∙ are.count;
  each = λ n n-in.
      (λ j. slice_get (superclasses_from classes (Prog (get_or (put j) n 0))) (get_or (step-put j) n 0))
      ∙ by n n-in (eqb n i) refl;
}
  where
    by : (n : ℕ) → n < length classes → (b : Bool) → eqb n i ≡ b
        → slice_get (superclasses_from classes (Prog (get_or (set below i t) n 0))) (get_or (set steps i k) n 0)
        ≡ Some (Prog n)
    by n n-in true same =
        let count = above.count in
        let long = are.count in
        let e : i ≡ n = sym (eqb-true n i same) in
        subst (λ (m : ℕ). slice_get (superclasses_from classes (Prog (get_or (set below i t) m 0)))
        (get_or (set steps i k) m 0) ≡ Some (Prog m)) e
        ((λ j. slice_get (superclasses_from classes
        (Prog (get_or-set_same below i t 0 (omega (arith, i-in, count)) j)))
        (get_or-set_same steps i k 0 (omega (arith, i-in, long)) j)) ∙ at)
    by n n-in false other =
        let differs : n ≡ i → ⊥ = λ e. absurd (let h = eq-eqb n i e in cc) in
        (λ j. slice_get (superclasses_from classes (Prog (get_or-set_other below i n t 0 differs j)))
        (get_or-set_other steps i n k 0 differs j)) ∙ are.each n n-in

-- what the table says of a class
pub step_is : (classes : List Class) (below steps : List ℕ) (n b k : ℕ) → AreAbove classes below
    → AreSteps classes below steps → slice_get below n ≡ Some b → slice_get steps n ≡ Some k
    → slice_get (superclasses_from classes (Prog b)) k ≡ Some (Prog n)
step_is classes below steps n b k above are at step =
    let within = slice_get_within below n b at in
    let count = above.count in
    let same : slice_get (superclasses_from classes (Prog (get_or below n 0))) (get_or steps n 0)
    ≡ slice_get (superclasses_from classes (Prog b)) k =
    λ j. slice_get (superclasses_from classes (Prog (get_or_from_slice_get below n b 0 at j)))
    (get_or_from_slice_get steps n k 0 step j) in
    sym same ∙ are.each n (omega (arith, within, count))

-- a class that stands in a list is among it
pub at_among : (cs : List ClassId) (k : ℕ) (x : ClassId) → slice_get cs k ≡ Some x
    → list_any (same_class x) cs ≡ true
at_among [] k x is = absurd cc
at_among (c ∷ cs) zero x is =
    ap (λ b. b || list_any (same_class x) cs) (ap (same_class x) (same_Some c x is) ∙ same_itself x)
at_among (c ∷ cs) (suc k) x is = or_right (same_class x c) (list_any (same_class x) cs) (at_among cs k x is)

-- ---- no class is above itself

-- none of these classes stands among them again
abbrev pub Once : List ClassId → Type 0
Once [] = Unit {0}
Once (c ∷ cs) = (list_any (same_class c) cs ≡ false) × Once cs

module _ (classes : List Class) (r : HasRanks classes) where
  weaker : (a b : ℕ) (xs : List ClassId) → a < b → AllByRecursion (λ x. r.rank x ≤ a) xs
      → AllByRecursion (λ x. r.rank x < b) xs
  weaker a b [] less low = tt
  weaker a b (x ∷ xs) less low = let first = low.0 in (omega (arith, first, less), weaker a b xs less low.1)

  above_low : (n : ℕ) (c : ClassId) → IsClass classes c
      → ((s : ClassId) → IsClass classes s → AllByRecursion (λ x. r.rank x ≤ r.rank s) (upwards n classes s))
      → (o : Option ClassId) → superclass classes c ≡ o
      → AllByRecursion (λ x. r.rank x < r.rank c) (option_map_or (upwards n classes) o [])
  above_low n c there more None is = tt
  above_low n c there more (Some s) is =
      weaker (r.rank s) (r.rank c) (upwards n classes s)
      (subst (λ (o : Option ClassId). IfSome o (λ b. r.rank b < r.rank c)) is
      (first_of (λ b. r.rank b < r.rank c) (superclass classes c) (interfaces classes c) (r.falls c there)))
      (more s (subst (λ (o : Option ClassId). IfSome o (IsClass classes)) is (superclass_there classes c)))

  lower : (a : ℕ) (xs : List ClassId) → AllByRecursion (λ x. r.rank x < a) xs
      → AllByRecursion (λ x. r.rank x ≤ a) xs
  lower a [] low = tt
  lower a (x ∷ xs) low = let first = low.0 in (omega (arith, first), lower a xs low.1)

  up_low : (n : ℕ) (c : ClassId) → IsClass classes c → AllByRecursion (λ x. r.rank x ≤ r.rank c) (upwards n classes c)
  unfolding upwards
  up_low zero c there = tt
  up_low (suc n) c there = (
    omega arith,
    lower (r.rank c) (option_map_or (upwards n classes) (superclass classes c) [])
        (above_low n c there (λ s s-in. up_low n s s-in) (superclass classes c) refl),
  )

  others : (c : ClassId) (xs : List ClassId) → AllByRecursion (λ x. r.rank x < r.rank c) xs
      → list_any (same_class c) xs ≡ false
  others c [] low = refl
  others c (x ∷ xs) low = by (same_class c x) refl (others c xs low.1)
    where
      by : (b : Bool) → same_class c x ≡ b → list_any (same_class c) xs ≡ false
          → (b || list_any (same_class c) xs) ≡ false
      by false e rest = rest
      by true e rest =
          let same : r.rank c ≡ r.rank x = ap r.rank ((class_Decides c x).0 e) in
          let less = low.0 in absurd (omega (arith, same, less))

  -- a class and its superclasses are each another one
  pub up_once : (n : ℕ) (c : ClassId) → IsClass classes c → Once (upwards n classes c)
  unfolding upwards
  up_once zero c there = tt
  up_once (suc n) c there = (
    others c (option_map_or (upwards n classes) (superclass classes c) [])
        (above_low n c there (up_low n) (superclass classes c) refl),
    by (λ s s-in. up_once n s s-in) (superclass classes c) (superclass_there classes c),
  )
    where
      by : ((s : ClassId) → IsClass classes s → Once (upwards n classes s)) → (o : Option ClassId)
          → IfSome o (IsClass classes) → Once (option_map_or (upwards n classes) o [])
      by more None s-in = tt
      by more (Some s) s-in = more s s-in
