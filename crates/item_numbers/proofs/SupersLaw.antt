-- The classes of the program above a class, by their numbers.
use Rattle.std.proofs.Common.{◌≡◌, ℕ, ◌+◌, ◌<◌, ◌≤◌, ◌==◌, ◌||◌, ◌&&◌, not, Bool, true, false, cond, List, []}
use Rattle.std.proofs.Common.{◌∷◌, ◌++◌, All, length, map, Option, refl, sym, ap, subst, ◌∙◌, arith, ◌⊎◌, inl, inr}
use Rattle.std.specs.List.{AllByRecursion, enumerate_from, filter, filter_map, flat_map, list_any}
use Rattle.std.proofs.lemmas.Bool.{and_parts, cases_eq, cases_lt, eq-eqb, eqb-true, ne_eqb}
use Rattle.std.proofs.lemmas.List.Elements.{All-from_recursion, filter-append, filter_map-append}
use Rattle.class_model.specs.declared.class.Class.{Class}
use Rattle.class_pool.specs.Hierarchy.{IsClass}
use Rattle.class_pool.specs.Supers.{is_below}
use Rattle.class_pool.specs.Walk.{same_class, superclasses_from}
use Rattle.class_pool.specs.declared.id.ClassId.{ClassId}
use Rattle.class_pool.specs.declared.id.ClassId.TheVariants.{Prog}
use Rattle.class_pool.proofs.EachOnce.{same_is}
use Rattle.require_sys.specs.Requires.{ascending, program_supers}
use Rattle.item_numbers.specs.bodies.Supers.{other_number, own_once}
use Rattle.item_numbers.specs.bodies.Wanting.{has}
use Rattle.item_numbers.proofs.Ascending.{Rising, has_ascending, never_both, rising_ascending, unique}
use Rattle.item_numbers.proofs.Meeting.{below_met, met_there, other_any}

-- ---- numbers in a row

abbrev pub places : ℕ → List Class → List ℕ
places s cs = map (λ p. p.0) (enumerate_from s cs)

above_places : (k s : ℕ) (cs : List Class) → k < s → AllByRecursion (λ y. k < y) (places s cs)
above_places k s [] lt = tt
above_places k s (c ∷ cs) lt = (lt, above_places k (s + 1) cs (omega (arith, lt)))

rising_places : (s : ℕ) (cs : List Class) → Rising (places s cs)
rising_places s [] = tt
rising_places s (c ∷ cs) = (above_places s (s + 1) cs (omega arith), rising_places (s + 1) cs)

below_places : (s : ℕ) (cs : List Class) → AllByRecursion (λ y. y < s + length cs) (places s cs)
below_places s [] = tt
below_places s (c ∷ cs) =
    let e : s + 1 + length cs ≡ s + length (c ∷ cs) = omega arith in
    (omega arith, subst (λ (m : ℕ). AllByRecursion (λ y. y < m) (places (s + 1) cs)) e (below_places (s + 1) cs))

in_places : (z s : ℕ) (cs : List Class) → s ≤ z → z < s + length cs → has z (places s cs) ≡ true
in_places z s [] low high = absurd (omega (arith, low, high))
in_places z s (c ∷ cs) low high = by (cases_eq z s) (λ above. in_places z (s + 1) cs above (omega (arith, high)))
  where
    above : (s < z) ⊎ (z ≤ s) → (z ≡ s → ⊥) → s + 1 ≤ z
    above (inl lt) other = omega (arith, lt)
    above (inr le) other = absurd (other (omega (arith, le, low)))

    by : (z ≡ s) ⊎ (z ≡ s → ⊥) → (s + 1 ≤ z → has z (places (s + 1) cs) ≡ true) → has z (places s (c ∷ cs)) ≡ true
    by (inl e) rest = ap (λ (b : Bool). b || has z (places (s + 1) cs)) (eq-eqb z s e)
    by (inr other) rest =
        ap (λ (b : Bool). b || has z (places (s + 1) cs)) (ne_eqb z s other) ∙ rest (above (cases_lt s z) other)

-- ---- numbers that pass a test

all_filter : (P : ℕ → Type 0) (q : ℕ → Bool) (xs : List ℕ) → AllByRecursion P xs → AllByRecursion P (filter q xs)
all_filter P q [] h = tt
all_filter P q (x ∷ xs) h = by (q x) (all_filter P q xs h.1)
  where
    by : (b : Bool) → AllByRecursion P (filter q xs) → AllByRecursion P (cond b (x ∷ filter q xs) (filter q xs))
    by true r = (h.0, r)
    by false r = r

rising_filter : (q : ℕ → Bool) (xs : List ℕ) → Rising xs → Rising (filter q xs)
rising_filter q [] h = tt
rising_filter q (x ∷ xs) h = by (q x) (rising_filter q xs h.1)
  where
    by : (b : Bool) → Rising (filter q xs) → Rising (cond b (x ∷ filter q xs) (filter q xs))
    by true r = (all_filter (λ y. x < y) q xs h.0, r)
    by false r = r

has_filter : (z : ℕ) (q : ℕ → Bool) (xs : List ℕ) → has z (filter q xs) ≡ (q z && has z xs)
has_filter z q [] = never (q z)
  where
    never : (b : Bool) → false ≡ (b && false)
    never true = refl
    never false = refl
has_filter z q (x ∷ xs) = by (z == x) refl (q x) refl (has_filter z q xs)
  where
    over : (b : Bool) → (b || (b && has z xs)) ≡ (b && true)
    over true = refl
    over false = refl

    by : (s : Bool) → (z == x) ≡ s → (b : Bool) → q x ≡ b → has z (filter q xs) ≡ (q z && has z xs)
        → has z (cond b (x ∷ filter q xs) (filter q xs)) ≡ (q z && (s || has z xs))
    by true e true f r =
        let at : q z ≡ true = ap q (eqb-true z x e) ∙ f in
        ap (λ (t : Bool). t || has z (filter q xs)) e ∙ sym (ap (λ (t : Bool). t && true) at)
    by true e false f r =
        let at : q z ≡ false = ap q (eqb-true z x e) ∙ f in
        r ∙ ap (λ (t : Bool). t && has z xs) at ∙ sym (ap (λ (t : Bool). t && true) at)
    by false e true f r = ap (λ (t : Bool). t || has z (filter q xs)) e ∙ r
    by false e false f r = r

-- ---- classes that stand in the list

there_of : (classes : List Class) (z : ℕ) (ids : List ClassId) → AllByRecursion (IsClass classes) ids
    → list_any (same_class (Prog z)) ids ≡ true → z < length classes
there_of classes z [] all h = never_both (sym h)
there_of classes z (c ∷ ids) all h = by (same_class (Prog z) c) refl h (λ k. there_of classes z ids all.1 k)
  where
    by : (b : Bool) → same_class (Prog z) c ≡ b → (b || list_any (same_class (Prog z)) ids) ≡ true
        → (list_any (same_class (Prog z)) ids ≡ true → z < length classes) → z < length classes
    by true e k rest = subst (IsClass classes) (sym (same_is (Prog z) c e)) all.0
    by false e k rest = rest k

module _ (classes : List Class) (n : ℕ) where
  abbrev test : ℕ → Bool
  test k = is_below classes (Prog n) (Prog k) && not (same_class (Prog n) (Prog k))

  -- all that is met
  abbrev met : List ClassId
  met = superclasses_from classes (Prog n) ++ flat_map (own_once classes) (superclasses_from classes (Prog n))

  listed : (z : ℕ) → has z (filter_map (other_number n) met) ≡ test z
  listed z =
      other_any n z met
      ∙ ap (λ (b : Bool). b && not (same_class (Prog n) (Prog z))) (below_met classes n (Prog z))

  below_of : (z : ℕ) → test z ≡ true → list_any (same_class (Prog z)) met ≡ true
  below_of z e =
      below_met classes n (Prog z)
      ∙ (and_parts (is_below classes (Prog n) (Prog z)) (not (same_class (Prog n) (Prog z))) e).0

  -- the numbers of what is met, ascending, are those that pass the test
  numbers_are : IsClass classes (Prog n)
      → ascending (filter_map (other_number n) met) ≡ filter test (places 0 classes)
  numbers_are n-in =
      unique (ascending (filter_map (other_number n) met)) (filter test (places 0 classes))
      (rising_ascending (filter_map (other_number n) met))
      (rising_filter test (places 0 classes) (rising_places 0 classes))
      (λ z. has_ascending z (filter_map (other_number n) met) ∙ listed z ∙ by z (test z) refl
      ∙ sym (has_filter z test (places 0 classes)))
    where
      there : (z : ℕ) → test z ≡ true → has z (places 0 classes) ≡ true
      there z h =
          let lt = there_of classes z met (met_there classes n n-in) (below_of z h) in
          in_places z 0 classes (omega arith) (omega (arith, lt))

      by : (z : ℕ) (b : Bool) → test z ≡ b → b ≡ (test z && has z (places 0 classes))
      by z true e = sym ((λ i. e i && there z e i))
      by z false e = sym (ap (λ (t : Bool). t && has z (places 0 classes)) e)

  filter_mapped : (t : ClassId → Bool) (s : ℕ) (cs : List Class)
      → map Prog (filter (λ k. t (Prog k)) (places s cs)) ≡ filter t (map (λ p. Prog p.0) (enumerate_from s cs))
  filter_mapped t s [] = refl
  filter_mapped t s (c ∷ cs) = by (t (Prog s)) (filter_mapped t (s + 1) cs)
    where
      by : (b : Bool) → map Prog (filter (λ k. t (Prog k)) (places (s + 1) cs))
          ≡ filter t (map (λ p. Prog p.0) (enumerate_from (s + 1) cs))
          → map Prog (cond b (s ∷ filter (λ k. t (Prog k)) (places (s + 1) cs)) (filter (λ k. t (Prog k)) (places
          (s + 1) cs)))
          ≡ cond b (Prog s ∷ filter t (map (λ p. Prog p.0) (enumerate_from (s + 1) cs)))
          (filter t (map (λ p. Prog p.0) (enumerate_from (s + 1) cs)))
      by true r = ap (λ (xs : List ClassId). Prog s ∷ xs) r
      by false r = r

  pub supers_are : (chain : List ClassId) (numbers : List ℕ) → IsClass classes (Prog n)
      → chain ≡ superclasses_from classes (Prog n)
      → numbers ≡ ascending (filter_map (other_number n) (chain ++ flat_map (own_once classes) chain))
      → map Prog numbers ≡ program_supers classes (Prog n)
  supers_are chain numbers n-in up is =
      ap (map Prog)
      (is
      ∙ ap (λ (cs : List ClassId). ascending (filter_map (other_number n) (cs ++ flat_map (own_once classes) cs))) up
      ∙ numbers_are n-in)
      ∙ filter_mapped (λ y. is_below classes (Prog n) y && not (same_class (Prog n) y)) 0 classes

  pub supers_there : (chain : List ClassId) (numbers : List ℕ) → IsClass classes (Prog n)
      → chain ≡ superclasses_from classes (Prog n)
      → numbers ≡ ascending (filter_map (other_number n) (chain ++ flat_map (own_once classes) chain))
      → All (λ k. k < length classes) numbers
  supers_there chain numbers n-in up is =
      let same =
      is
      ∙ ap (λ (cs : List ClassId). ascending (filter_map (other_number n) (cs ++ flat_map (own_once classes) cs))) up
      ∙ numbers_are n-in in
      let e : 0 + length classes ≡ length classes = omega arith in
      subst (λ (xs : List ℕ). All (λ k. k < length classes) xs) (sym same)
      (All-from_recursion (λ k. k < length classes) (filter test (places 0 classes))
      (all_filter (λ k. k < length classes) test (places 0 classes)
      (subst (λ (m : ℕ). AllByRecursion (λ k. k < m) (places 0 classes)) e (below_places 0 classes))))

-- ---- lists of lists

pub flat_of : {X Y Z : Type 0} (f : Y → Option Z) (p : Y → Bool) (g : X → List Y) (xs : List X)
    → flat_map (λ x. filter_map f (filter p (g x))) xs ≡ filter_map f (filter p (flat_map g xs))
flat_of f p g [] = refl
flat_of f p g (x ∷ xs) =
    ap (λ t. filter_map f (filter p (g x)) ++ t) (flat_of f p g xs)
    ∙ sym (filter_map-append f (filter p (g x)) (filter p (flat_map g xs)))
    ∙ ap (filter_map f) (sym (filter-append p (g x) (flat_map g xs)))

pub flat_filtered : {X Y : Type 0} (g : X → List Y) (q : X → Bool) (xs : List X)
    → flat_map (λ x. cond (q x) (g x) []) xs ≡ flat_map g (filter q xs)
flat_filtered g q [] = refl
flat_filtered g q (x ∷ xs) = by (q x) (flat_filtered g q xs)
  where
    by : (b : Bool) → flat_map (λ y. cond (q y) (g y) []) xs ≡ flat_map g (filter q xs)
        → (cond b (g x) [] ++ flat_map (λ y. cond (q y) (g y) []) xs)
        ≡ flat_map g (cond b (x ∷ filter q xs) (filter q xs))
    by true rest = ap (λ t. g x ++ t) rest
    by false rest = rest
