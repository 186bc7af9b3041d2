-- Where neither SeedLost nor NotClosed finds a place, the items with lines are closed for the requirements.
use Rattle.std.proofs.Common.{◌≡◌, ◌<◌, ℕ, zero, suc, ◌+◌, not, ◌&&◌, Bool, true, false, cond, List, [], ◌∷◌, ◌++◌}
use Rattle.std.proofs.Common.{length, map, Option, Some, None, slice_get, get_or, refl, sym, ap, subst, ◌∙◌, arith}
use Rattle.std.proofs.Common.{length-append, ⊎_elim}
use Rattle.std.specs.Prelude.{IsTrue, IfSome, min}
use Rattle.std.specs.List.{All, AllByRecursion, enumerate_from, filter, find, flat_map, fold}
use Rattle.std.proofs.Math.Nat.{min-le_left}
use Rattle.std.proofs.lemmas.List.{get_or_past, length-map}
use Rattle.std.proofs.lemmas.List.Elements.{All-from_recursion, recursion_from_All}
use Rattle.std.proofs.lemmas.List.Sums.{sum_by-cons}
use Rattle.std.proofs.lemmas.Option.{slice_get_cases}
use Rattle.std.proofs.lemmas.Bool.{and_from, not-false}
use Rattle.jv_base.proofs.Lists.{all_split, all_append, none_passes}
use Rattle.mark_core.specs.Marks.{Closed, needs_of, set_of}
use Rattle.mark_core.specs.Valid.{Valid}
use Rattle.mark_core.specs.declared.system.Pair.{Pair}
use Rattle.mark_core.specs.declared.system.System.{System}
use Rattle.class_model.specs.declared.class.Class.{Class}
use Rattle.class_pool.specs.Count.{item_count, items_of}
use Rattle.keep_rules.specs.declared.rules.Rules.{Rules}
use Rattle.rule_system.specs.Required.{required}
use Rattle.rule_system.proofs.AskedThere.{required_valid}
use Rattle.require_sys.proofs.Parts.{all_enumerated, all_flat_map}
use Rattle.new_names.specs.declared.class_names.ClassNames.{ClassNames}
use Rattle.pair_clauses.specs.Closing.{closed_fault, has_line, lacking, least, lesser, lined_items, lost_seed, needed}
use Rattle.pair_clauses.specs.Closing.{needed_by, needed_together, place_of_item, seed_fault}
use Rattle.pair_clauses.specs.Places.{item_places, place_of_field, place_of_method, places_in}

-- ---- searches that find nothing

find_some : {X : Type 0} (P : X → Type 0) (test : X → Bool) (xs : List X) → AllByRecursion P xs
    → IfSome (find test xs) P
find_some P test [] h = tt
find_some P test (x ∷ xs) h = by (test x) (find_some P test xs h.1)
  where
    by : (b : Bool) → IfSome (find test xs) P → IfSome (cond b (Some x) (find test xs)) P
    by true r = h.0
    by false r = r

filter_none : {X : Type 0} (test : X → Bool) (xs : List X) → filter test xs ≡ []
    → AllByRecursion (λ x. test x ≡ false) xs
filter_none test [] h = tt
filter_none {X} test (x ∷ xs) h = by (test x) refl h (filter_none test xs)
  where
    by : (b : Bool) → test x ≡ b → cond b (x ∷ filter test xs) (filter test xs) ≡ []
        → (filter test xs ≡ [] → AllByRecursion (λ x. test x ≡ false) xs)
        → AllByRecursion (λ x. test x ≡ false) (x ∷ xs)
    by true e h rest = absurd cc
    by false e h rest = (e, rest h)

filter_all : {X : Type 0} (P : X → Type 0) (test : X → Bool) (xs : List X) → AllByRecursion P xs
    → AllByRecursion P (filter test xs)
filter_all P test [] h = tt
filter_all P test (x ∷ xs) h = by (test x) (filter_all P test xs h.1)
  where
    by : (b : Bool) → AllByRecursion P (filter test xs)
        → AllByRecursion P (cond b (x ∷ filter test xs) (filter test xs))
    by true r = (h.0, r)
    by false r = r

least_below : (n m : ℕ) (xs : List ℕ) → m < n → (r : ℕ) × (fold lesser (Some m) xs ≡ Some r) × (r < n)
least_below n m [] low = (m, refl, low)
least_below n m (x ∷ xs) low = let less = min-le_left m x in least_below n (min m x) xs (omega (arith, low, less))

-- there is a least one below the bound, or there are none
least_none : (n : ℕ) (xs : List ℕ) → AllByRecursion (λ x. x < n) xs
    → ((r : ℕ) → least xs ≡ Some r → r < n → ⊥) → xs ≡ []
least_none n [] all none = refl
least_none n (x ∷ xs) all none = let r = least_below n x xs all.0 in absurd (none r.0 r.1 r.2)

-- ---- places

places_count : (classes : List Class) → length (item_places classes) ≡ item_count classes
places_count [] = refl
places_count (c ∷ cs) =
    let fields = length-map c.fields (place_of_field c) in
    let methods = length-map c.methods (place_of_method c) in
    let both = length-append (map (place_of_field c) c.fields) (map (place_of_method c) c.methods) in
    let more = length-append (places_in c) (item_places cs) in
    let rest = places_count cs in
    let sum = sum_by-cons items_of c cs in
    omega (arith, fields, methods, both, more, rest, sum)

there : (classes : List Class) (k : ℕ) → k < item_count classes
    → None ≡ place_of_item classes (Some k) → ⊥
there classes k low h =
    let long = places_count classes in
    ⊎_elim (λ p. let q : None ≡ Some p.0 = h ∙ p.2 in cc) (λ p. let past = p.0 in absurd (omega
    (arith, low, long, past)))
    (slice_get_cases (item_places classes) k).1

-- ---- the requirements

flat_all : {X Y : Type 0} (P : Y → Type 0) (Q : X → Type 0) (g : X → List Y) → ((x : X) → Q x → AllByRecursion P (g x))
    → (xs : List X) → AllByRecursion Q xs → AllByRecursion P (flat_map g xs)
flat_all P Q g each [] h = tt
flat_all {X} {Y} P Q g each (x ∷ xs) h = both (g x) (each x h.0) (flat_all P Q g each xs h.1)
  where
    both : (ys : List Y) → AllByRecursion P ys → AllByRecursion P (flat_map g xs)
        → AllByRecursion P (ys ++ flat_map g xs)
    both [] a b = b
    both (y ∷ ys) a b = (a.0, both ys a.1 b)

numbered_all : {X : Type 0} (P : X → Type 0) (n : ℕ) (xs : List X) → AllByRecursion P xs
    → AllByRecursion (λ (p : ℕ × X). P p.1) (enumerate_from n xs)
numbered_all P n [] h = tt
numbered_all P n (x ∷ xs) h = (h.0, numbered_all P (n + 1) xs h.1)

all_turned : {X : Type 0} (test : X → Bool) (xs : List X) → AllByRecursion (λ x. not (test x) ≡ false) xs
    → AllByRecursion (λ x. test x ≡ true) xs
all_turned test [] h = tt
all_turned test (x ∷ xs) h = (not-false (test x) h.0, all_turned test xs h.1)

module _ (sys : System) (lined : List Bool) (n : ℕ) (size : sys.n ≡ n) (valid : Valid sys) where
  abbrev Below : ℕ → Type 0
  Below x = x < n

  below_of : (xs : List ℕ) → All (λ x. x < sys.n) xs → AllByRecursion Below xs
  below_of xs h = subst (λ (m : ℕ). AllByRecursion (λ x. x < m) xs) size (recursion_from_All (λ x. x < sys.n) xs h)

  needs_below : AllByRecursion Below (flat_map (needed_by lined) (enumerate_from 0 sys.needs))
  needs_below = flat_all Below (λ (p : ℕ × List ℕ). All (λ x. x < sys.n) p.1) (needed_by lined) each
      (enumerate_from 0 sys.needs)
      (numbered_all (λ xs. All (λ x. x < sys.n) xs) 0 sys.needs
      (recursion_from_All (λ xs. All (λ x. x < sys.n) xs) sys.needs valid.2))
    where
      by : (b : Bool) (xs : List ℕ) → AllByRecursion Below xs → AllByRecursion Below (cond b xs [])
      by true xs h = h
      by false xs h = tt

      each : (p : ℕ × List ℕ) → All (λ x. x < sys.n) p.1 → AllByRecursion Below (needed_by lined p)
      each (k, xs) h = by (has_line lined k) xs (below_of xs h)

  pairs_below : AllByRecursion Below (flat_map (needed_together lined) sys.pairs)
  pairs_below = flat_all Below (λ (p : Pair). p.derived < sys.n) (needed_together lined) each sys.pairs
      (thirds sys.pairs (recursion_from_All _ sys.pairs valid.3))
    where
      thirds : (ps : List Pair)
          → AllByRecursion (λ (p : Pair). (p.one < sys.n) × (p.two < sys.n) × (p.derived < sys.n)) ps
          → AllByRecursion (λ (p : Pair). p.derived < sys.n) ps
      thirds [] h = tt
      thirds (p ∷ ps) h = (h.0.2, thirds ps h.1)

      by : (b : Bool) (x : ℕ) → x < sys.n → AllByRecursion Below (cond b (x ∷ []) [])
      by true x h = (subst (λ (m : ℕ). x < m) size h, tt)
      by false x h = tt

      each : (p : Pair) → p.derived < sys.n → AllByRecursion Below (needed_together lined p)
      each p h = by (has_line lined p.one && has_line lined p.two) p.derived h

  needed_below : AllByRecursion Below (needed sys lined)
  needed_below = all_append Below (flat_map (needed_by lined) (enumerate_from 0 sys.needs))
      (flat_map (needed_together lined) sys.pairs) needs_below pairs_below

  -- from no lost seed and nothing lacking
  module _ (seeds : (x : ℕ) → lost_seed sys lined ≡ Some x → x < n → ⊥)
      (closed : (x : ℕ) → lacking sys lined ≡ Some x → x < n → ⊥) where
    abbrev Lined : ℕ → Type 0
    Lined x = has_line lined x ≡ true

    seeds_lined : AllByRecursion Lined sys.seeds
    seeds_lined = by (lost_seed sys lined) refl
        (find_some Below (λ x. not (has_line lined x)) sys.seeds (below_of sys.seeds valid.1))
      where
        by : (o : Option ℕ) → lost_seed sys lined ≡ o → IfSome o Below → AllByRecursion Lined sys.seeds
        by None e h = all_turned (has_line lined) sys.seeds (none_passes (λ x. not (has_line lined x)) sys.seeds e)
        by (Some x) e h = absurd (seeds x e h)

    needed_lined : AllByRecursion Lined (needed sys lined)
    needed_lined = all_turned (has_line lined) (needed sys lined)
        (filter_none (λ x. not (has_line lined x)) (needed sys lined)
        (least_none n (filter (λ x. not (has_line lined x)) (needed sys lined))
        (filter_all Below (λ x. not (has_line lined x)) (needed sys lined) needed_below) closed))

    both : AllByRecursion Lined (flat_map (needed_by lined) (enumerate_from 0 sys.needs))
        × AllByRecursion Lined (flat_map (needed_together lined) sys.pairs)
    both = all_split Lined (flat_map (needed_by lined) (enumerate_from 0 sys.needs))
        (flat_map (needed_together lined) sys.pairs) needed_lined

    needs_lined : (x : ℕ) → Lined x → AllByRecursion Lined (get_or sys.needs x [])
    needs_lined x h =
        ⊎_elim
        (λ p. subst (AllByRecursion Lined) (sym (at p.0 p.1 p.2))
        (all p.0 (all_enumerated (λ (q : ℕ × List ℕ). AllByRecursion Lined (needed_by lined q)) 0 sys.needs x p.0
        (all_flat_map Lined (needed_by lined) (enumerate_from 0 sys.needs) both.0) p.2)))
        (λ p. subst (AllByRecursion Lined) (sym (get_or_past sys.needs x [] p.0)) tt)
        (slice_get_cases sys.needs x).1
      where
        at : (xs : List ℕ) → x < length sys.needs → slice_get sys.needs x ≡ Some xs → get_or sys.needs x [] ≡ xs
        at xs low e = found sys.needs x xs e
          where
            found : (l : List (List ℕ)) (k : ℕ) (y : List ℕ) → slice_get l k ≡ Some y → get_or l k [] ≡ y
            found [] k y e = absurd cc
            found (z ∷ l) zero y e = let same : z ≡ y = cc in same
            found (z ∷ l) (suc k) y e = found l k y e

        all : (xs : List ℕ) → AllByRecursion Lined (needed_by lined (0 + x, xs)) → AllByRecursion Lined xs
        all xs r =
            let plain : 0 + x ≡ x = omega arith in
            subst (λ (b : Bool). AllByRecursion Lined (cond b xs [])) (ap (has_line lined) plain ∙ h) r

    pairs_lined : (ps : List Pair)
        → AllByRecursion (λ (p : Pair). AllByRecursion Lined (needed_together lined p)) ps
        → AllByRecursion (λ (p : Pair). Lined p.one → Lined p.two → Lined p.derived) ps
    pairs_lined [] h = tt
    pairs_lined (p ∷ ps) h = (λ one two. one_of one two h.0, pairs_lined ps h.1)
      where
        one_of : Lined p.one → Lined p.two → AllByRecursion Lined (needed_together lined p) → Lined p.derived
        one_of one two r = (subst (λ (b : Bool). AllByRecursion Lined (cond b (p.derived ∷ []) []))
            (and_from (has_line lined p.one) (has_line lined p.two) one two) r).0

    lines_closed : Closed sys (set_of lined)
    lines_closed = record {
      seeds = All-from_recursion (λ x. IsTrue (set_of lined x)) sys.seeds seeds_lined;
      needs = λ x h. All-from_recursion (λ y. IsTrue (set_of lined y)) (needs_of sys x) (needs_lined x h);
      pairs = All-from_recursion _ sys.pairs
          (pairs_lined sys.pairs (all_flat_map Lined (needed_together lined) sys.pairs both.1));
    }

pub closed_lines : (input : List Class) (rules : Rules) (given : List ClassNames)
    → None ≡ seed_fault input given (required input rules) → None ≡ closed_fault input given (required input rules)
    → Closed (required input rules) (set_of (lined_items given))
closed_lines input rules given seeds closed =
    lines_closed (required input rules) (lined_items given) (item_count input) refl (required_valid input rules)
    (λ x e low. there input x low (seeds ∙ ap (place_of_item input) e))
    (λ x e low. there input x low (closed ∙ ap (place_of_item input) e))
