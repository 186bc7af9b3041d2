-- The answer why an item is kept is the only one: the least depths are, and so are the steps that are told.
use Rattle.std.proofs.Common.{◌≡◌, ◌+◌, ◌<◌, ◌≤◌, ◌==◌, ℕ, zero, suc, Bool, true, false, cond, List, [], ◌∷◌, ◌∙◌}
use Rattle.std.proofs.Common.{◌⊎◌, ⊎_elim, refl, sym, subst, ap, arith, map, Less}
use Rattle.std.specs.Prelude.{Option, Some, None, MatchBool, nat_lt, is_some}
use Rattle.std.specs.List.{All, Contains, find, list_any, range_with_len}
use Rattle.std.specs.List.Sorted.{IsStrictlySortedBy}
use Rattle.std.specs.Ordering.{ordering_index, ordering_reverse}
use Rattle.std.proofs.lemmas.Bool.{and_parts, both_ways, cases_lt, eqb-true}
use Rattle.std.proofs.lemmas.List.{ext_get_or}
use Rattle.std.proofs.lemmas.List.Elements.{All-contains, All-head, All-tail, Contains-append_cases, Contains-append_right}
use Rattle.std.proofs.lemmas.List.Elements.{Contains-push_cases}
use Rattle.std.proofs.lemmas.Map.Keys.{sorted_tail}
use Rattle.std.proofs.lemmas.Option.{same_Some}
use Rattle.mark_core.specs.Marks.{needs_of}
use Rattle.mark_core.specs.declared.system.Pair.{Pair}
use Rattle.mark_core.specs.declared.system.System.{System}
use Rattle.why_kept.specs.Derivations.{item_of}
use Rattle.why_kept.specs.Levels.{AreLeast, HasLevel, level_of, level_of_pair}
use Rattle.why_kept.specs.Steps.{AreSteps, Explains, HasStep, IsSource, by_need, by_of, by_pair, follows_from, is_needed_by}
use Rattle.why_kept.specs.Steps.{key_cmp, key_of, sources_of}
use Rattle.why_kept.specs.declared.reasons.Reasons.{Reasons}
use Rattle.why_kept.specs.declared.reasons.WhyStep.{WhyStep}
use Rattle.why_kept.proofs.OrderedKeys.{at_head, at_tail, head_less, head_or_tail, key_total}
use Rattle.why_command.specs.Due.{AreReasons}

-- ---- the least depths

-- what is reached bounds the other
has_low : (sys : System) (one other : List ℕ) → AreLeast sys one → AreLeast sys other → (x : ℕ) → HasLevel sys one x
    → HasLevel sys other x × (level_of sys other x ≤ level_of sys one x)
has_low sys one other h k x has =
    let by = h.reached x has in
    let bound = k.bounds by.tree by.derives in
    let low = bound.1 in
    let deep = by.deep in
    let same : level_of sys other (item_of by.tree) ≡ level_of sys other x = ap (level_of sys other) by.item in
    (subst (HasLevel sys other) by.item bound.0, omega (arith, low, same, deep))

module _ (sys : System) (one other : List ℕ) (h : AreLeast sys one) (k : AreLeast sys other) where
  same_level : (x : ℕ) → level_of sys one x ≡ level_of sys other x
  same_level x =
      ⊎_elim
      (λ has.
      let there = has_low sys one other h k x has in
      let back = has_low sys other one k h x there.0 in
      let low = there.1 in
      let high = back.1 in
      omega (arith, low, high))
      (λ none. ⊎_elim
      (λ has. let back = has_low sys other one k h x has in let some = back.0 in absurd (omega (arith, none, some)))
      (λ also. let most = h.most x in let bound = k.most x in omega (arith, none, also, most, bound))
      (cases_lt (level_of sys other x) sys.n))
      (cases_lt (level_of sys one x) sys.n)

  pub same_levels : one ≡ other
  same_levels = ext_get_or sys.n one other (h.count ∙ sym k.count) (λ x lt. same_level x)

-- ---- what something is kept by has a lower level

passes_by : {A : Type 0} (p : A → Bool) (x y : A) (rest : Option A) → (rest ≡ Some y → p y ≡ true) → (b : Bool) → p x ≡ b
    → cond b (Some x) rest ≡ Some y → p y ≡ true
passes_by p x y rest more true is e = subst (λ z. p z ≡ true) (same_Some x y e) is
passes_by p x y rest more false is e = more e

-- what is found passes
passes : {A : Type 0} (p : A → Bool) (xs : List A) (y : A) → find p xs ≡ Some y → p y ≡ true
passes p [] y e = absurd (both_ways (is_some (Some y)) (sym (ap is_some e)) refl)
passes p (x ∷ xs) y e = passes_by p x y (find p xs) (passes p xs y) (p x) refl e

none_in : {A : Type 0} (x : A) → Contains [] x → ⊥
none_in x has = let lt : has.0 < 0 = has.1 in omega (arith, lt)

one_in : {A : Type 0} (x y : A) → Contains (y ∷ []) x → y ≡ x
one_in x y has = ⊎_elim (λ none. absurd (none_in x none)) (λ is. is) (Contains-push_cases [] y x has)

module _ (sys : System) (levels : List ℕ) where
  abbrev at : ℕ → ℕ
  at x = level_of sys levels x

  source_by : (s x : ℕ) (f : Option ℕ) (g : Option Pair) → find (is_needed_by sys levels s) (range_with_len 0 sys.n) ≡ f
      → find (follows_from sys levels s) sys.pairs ≡ g → Contains (sources_of (by_need f (by_pair g))) x → at x < at s
  source_by s x (Some y) g is also has =
      let parts = and_parts (at s == at y + 1) (list_any (λ z. s == z) (needs_of sys y))
      (passes (is_needed_by sys levels s) (range_with_len 0 sys.n) y is) in
      let next : at s ≡ at y + 1 = eqb-true (at s) (at y + 1) parts.0 in
      let same : at y ≡ at x = ap (level_of sys levels) (one_in x y has) in
      omega (arith, next, same)
  source_by s x None (Some p) is also has =
      let parts = and_parts (p.derived == s) (at s == level_of_pair sys levels p + 1)
      (passes (follows_from sys levels s) sys.pairs p also) in
      let next : at s ≡ level_of_pair sys levels p + 1 = eqb-true (at s) (level_of_pair sys levels p + 1) parts.1 in
      ⊎_elim
      (λ first. let same : at p.one ≡ at x = ap (level_of sys levels) (one_in x p.one first) in omega (arith, next, same))
      (λ second. let same : at p.two ≡ at x = ap (level_of sys levels) (one_in x p.two second) in omega (arith, next, same))
      (Contains-append_cases (p.one ∷ []) (p.two ∷ []) x has)
  source_by s x None None is also has = absurd (none_in x has)

  pub source_low : (s x : ℕ) → Contains (sources_of (by_of sys levels s)) x → at x < at s
  source_low s x has =
      source_by s x (find (is_needed_by sys levels s) (range_with_len 0 sys.n)) (find (follows_from sys levels s) sys.pairs)
      refl refl has

-- ---- lists in order

abbrev Key : Type 0
Key = ℕ × ℕ

not_before_itself : (x : Key) → key_cmp x x ≡ Less → ⊥
not_before_itself x e =
    let back : key_cmp x x ≡ ordering_reverse Less = key_total.antisymm x x ∙ ap ordering_reverse e in
    let i : 0 ≡ 2 = ap ordering_index (sym e ∙ back) in
    omega (arith, i)

not_both : (x y : Key) → key_cmp x y ≡ Less → key_cmp y x ≡ Less → ⊥
not_both x y e f = not_before_itself x (key_total.trans x y x e f)

same_heads : (x y : Key) (xs ys : List Key) → IsStrictlySortedBy key_cmp (x ∷ xs) → IsStrictlySortedBy key_cmp (y ∷ ys)
    → Contains (y ∷ ys) x → Contains (x ∷ xs) y → x ≡ y
same_heads x y xs ys h k there back =
    ⊎_elim sym
    (λ behind. ⊎_elim (λ is. is)
    (λ also. absurd (not_both x y (head_less x xs y h also) (head_less y ys x k behind)))
    (head_or_tail x xs y back))
    (head_or_tail y ys x there)

-- what the tail has stands behind the head of the other too
tail_in : (x y : Key) (xs ys : List Key) → IsStrictlySortedBy key_cmp (x ∷ xs) → x ≡ y
    → ((q : Key) → Contains (x ∷ xs) q → Contains (y ∷ ys) q) → (q : Key) → Contains xs q → Contains ys q
tail_in x y xs ys h same there q has =
    ⊎_elim
    (λ is. absurd (not_before_itself x (subst (λ z. key_cmp x z ≡ Less) (sym (same ∙ is)) (head_less x xs q h has))))
    (λ behind. behind)
    (head_or_tail y ys q (there q (at_tail x xs q has)))

same_sorted : (xs ys : List Key) → IsStrictlySortedBy key_cmp xs → IsStrictlySortedBy key_cmp ys
    → ((q : Key) → Contains xs q → Contains ys q) → ((q : Key) → Contains ys q → Contains xs q) → xs ≡ ys
same_sorted [] [] h k there back = refl
same_sorted [] (y ∷ ys) h k there back = absurd (none_in y (back y (at_head y ys)))
same_sorted (x ∷ xs) [] h k there back = absurd (none_in x (there x (at_head x xs)))
same_sorted (x ∷ xs) (y ∷ ys) h k there back =
    let same = same_heads x y xs ys h k (there x (at_head x xs)) (back y (at_head y ys)) in
    let rest = same_sorted xs ys (sorted_tail key_cmp x xs h) (sorted_tail key_cmp y ys k)
    (tail_in x y xs ys h same there) (tail_in y x ys xs k (sym same) back) in
    λ i. same i ∷ rest i

-- ---- steps

at_first : {A : Type 0} (x : A) (xs : List A) → Contains (x ∷ xs) x
at_first x xs = (0, omega arith, refl)

-- what a map of a list has is of an element
of_map : {A B : Type 0} (f : A → B) (xs : List A) (y : B) → Contains (map f xs) y → (x : A) × Contains xs x × (f x ≡ y)
of_map f [] y has = absurd (none_in y has)
of_map f (x ∷ xs) y has =
    ⊎_elim (λ first. (x, at_first x xs, one_in y (f x) first))
    (λ rest. let more = of_map f xs y rest in (more.0, Contains-append_right (x ∷ []) xs more.0 more.1, more.2))
    (Contains-append_cases (f x ∷ []) (map f xs) y has)

in_map : {A B : Type 0} (f : A → B) (xs : List A) (x : A) → Contains xs x → Contains (map f xs) (f x)
in_map f [] x has = absurd (none_in x has)
in_map f (z ∷ xs) x has =
    ⊎_elim (λ first. subst (λ y. Contains (f z ∷ map f xs) (f y)) (one_in x z first) (at_first (f z) (map f xs)))
    (λ rest. Contains-append_right (f z ∷ []) (map f xs) (f x) (in_map f xs x rest))
    (Contains-append_cases (z ∷ []) xs x has)

module _ (sys : System) (levels : List ℕ) (least : AreLeast sys levels) (id : ℕ) where
  -- the step of an item
  abbrev step_of : ℕ × ℕ → WhyStep
  step_of k = record { id = k.1; by = by_of sys levels k.1 }

  -- steps are told by their keys
  by_keys : (steps : List WhyStep) → All (λ (step : WhyStep). step.by ≡ by_of sys levels step.id) steps
      → steps ≡ map step_of (map (key_of sys levels) steps)
  by_keys [] by = refl
  by_keys (step ∷ steps) by =
      let first = All-head (λ (step : WhyStep). step.by ≡ by_of sys levels step.id) step steps by in
      let rest = by_keys steps (All-tail (λ (step : WhyStep). step.by ≡ by_of sys levels step.id) step steps by) in
      λ i. record { id = step.id; by = first i } ∷ rest i

  -- it has that by which its item is kept
  abbrev KeptBy : WhyStep → Type 0
  KeptBy step = step.by ≡ by_of sys levels step.id

  module _ (steps others : List WhyStep) (h : Explains sys levels id steps) (k : Explains sys levels id others) where
    -- what a step is kept by has a lower level
    low : (s : WhyStep) (x : ℕ) → Contains steps s → Contains (sources_of s.by) x
        → level_of sys levels x < level_of sys levels s.id
    low s x inside source =
        source_low sys levels s.id x
        (subst (λ b. Contains (sources_of b) x) (All-contains KeptBy steps s h.by inside) source)

    -- it has a step there where the step has one
    source_there : (s : WhyStep) (x : ℕ) → Contains steps s → Contains (sources_of s.by) x → HasStep others s.id
        → HasStep others x
    source_there s x inside source (t, has, is) =
        let same : s.by ≡ t.by = All-contains KeptBy steps s h.by inside ∙ ap (by_of sys levels) (sym is)
        ∙ sym (All-contains KeptBy others t k.by has) in
        All-contains (HasStep others) (sources_of t.by) x
        (All-contains (λ (u : WhyStep). All (HasStep others) (sources_of u.by)) others t k.sources has)
        (subst (λ b. Contains (sources_of b) x) same source)

    last_or_source : (step : WhyStep) → Contains steps step → (step.id ≡ id) ⊎ IsSource steps step.id
    last_or_source step has =
        All-contains (λ (s : WhyStep). (s.id ≡ id) ⊎ IsSource steps s.id) steps step h.only has

    -- an item that has a step here has one there
    has_there : (gap x : ℕ) → sys.n ≤ level_of sys levels x + gap → HasStep steps x → HasStep others x
    has_there zero x near (step, has, is) =
        ⊎_elim (λ last. subst (HasStep others) (sym last ∙ is) k.has)
        (λ source.
        let lower : level_of sys levels step.id < level_of sys levels source.0.id =
        low source.0 step.id source.1 source.2 in
        let most = least.most source.0.id in
        let same : level_of sys levels step.id ≡ level_of sys levels x = ap (level_of sys levels) is in
        absurd (omega (arith, near, lower, most, same)))
        (last_or_source step has)
    has_there (suc gap) x near (step, has, is) =
        ⊎_elim (λ last. subst (HasStep others) (sym last ∙ is) k.has)
        (λ source.
        let lower : level_of sys levels step.id < level_of sys levels source.0.id =
        low source.0 step.id source.1 source.2 in
        let same : level_of sys levels step.id ≡ level_of sys levels x = ap (level_of sys levels) is in
        let above : HasStep others source.0.id = has_there gap source.0.id (omega (arith, near, lower, same))
        (source.0, source.1, refl) in
        subst (HasStep others) is (source_there source.0 step.id source.1 source.2 above))
        (last_or_source step has)

    key_there : (q : Key) → Contains (map (key_of sys levels) steps) q → Contains (map (key_of sys levels) others) q
    key_there q has =
        let step = of_map (key_of sys levels) steps q has in
        let there = has_there sys.n step.0.id (omega arith) (step.0, step.1, refl) in
        let same : key_of sys levels there.0 ≡ q = ap (λ (x : ℕ). (level_of sys levels x, x)) there.2 ∙ step.2 in
        subst (Contains (map (key_of sys levels) others)) same (in_map (key_of sys levels) others there.0 there.1)

  explained_once : (steps others : List WhyStep) → Explains sys levels id steps → Explains sys levels id others
      → steps ≡ others
  explained_once steps others h k =
      by_keys steps h.by
      ∙ ap (map step_of) (same_sorted (map (key_of sys levels) steps) (map (key_of sys levels) others) h.ordered k.ordered
      (key_there steps others h k) (key_there others steps k h))
      ∙ sym (by_keys others k.by)

  same_steps_by : (steps others : List WhyStep) (b : Bool) → MatchBool b (Explains sys levels id steps) (steps ≡ [])
      → MatchBool b (Explains sys levels id others) (others ≡ []) → steps ≡ others
  same_steps_by steps others true h k = explained_once steps others h k
  same_steps_by steps others false h k = h ∙ sym k

  pub same_steps : (steps others : List WhyStep) → AreSteps sys levels id steps → AreSteps sys levels id others
      → steps ≡ others
  same_steps steps others h k = same_steps_by steps others (nat_lt (level_of sys levels id) sys.n) h k

-- ---- the answer

pub one_reasons : (sys : System) (id : ℕ) (one other : Reasons) → AreReasons sys id one → AreReasons sys id other
    → one ≡ other
one_reasons sys id one other h k =
    let levels : one.levels ≡ other.levels = same_levels sys one.levels other.levels h.least k.least in
    let steps : one.steps ≡ other.steps = same_steps sys one.levels h.least id one.steps other.steps h.steps
    (subst (λ ls. AreSteps sys ls id other.steps) (sym levels) k.steps) in
    λ i. record { levels = levels i; steps = steps i }
