-- Steps while they are told, and the derivation that they tell.
use Rattle.std.proofs.Common.{◌≡◌, ◌⊎◌, ◌+◌, ◌*◌, ◌<◌, ◌≤◌, max, ℕ, zero, suc, List, [], ◌∷◌, ◌++◌, inl, inr, ⊎_elim, ◌∙◌}
use Rattle.std.proofs.Common.{refl, sym, subst, ap, arith, length, get_or, map, append_assoc, Less}
use Rattle.std.specs.BTreeSet.{insert_key}
use Rattle.std.specs.List.{All, Contains}
use Rattle.std.specs.List.Sorted.{IsStrictlySortedBy}
use Rattle.std.specs.Prelude.{MatchBool}
use Rattle.std.proofs.lemmas.Bool.{le-ltb, lt-ltb}
use Rattle.std.proofs.lemmas.List.{get_or_default}
use Rattle.std.proofs.lemmas.Nat.{mul-add-lt}
use Rattle.std.proofs.lemmas.List.Elements.{All-cons, All-contains, All-head, All-nil, All-tail, All-weaker}
use Rattle.std.proofs.lemmas.List.Elements.{Contains-append_cases, Contains-append_left, Contains-append_right}
use Rattle.std.proofs.lemmas.List.Elements.{Contains-get_or, Contains-push, Contains-push_cases}
use Rattle.mark_core.specs.Marks.{needs_of}
use Rattle.mark_core.specs.Valid.{Valid}
use Rattle.mark_core.specs.declared.system.System.{System}
use Rattle.why_kept.specs.Derivations.{IsDerivation, Tree, depth_of, item_of, pair_of}
use Rattle.why_kept.specs.Derivations as tree
use Rattle.why_kept.specs.Levels.{AreLeast, HasLevel, IsCertified, level_of}
use Rattle.why_kept.specs.Steps.{AreSteps, Explains, HasStep, IsTold, by_of, key_cmp, key_of, sources_of}
use Rattle.why_kept.specs.bodies.Noting.{AreNoted}
use Rattle.why_kept.specs.bodies.Telling.{AreTold, all_keys, key, weight, with_keys}
use Rattle.why_kept.specs.declared.reasons.By.{By}
use Rattle.why_kept.specs.declared.reasons.By.TheVariants as by
use Rattle.why_kept.specs.declared.reasons.WhyStep.{WhyStep}
use Rattle.why_kept.proofs.OrderedKeys.{at_head, at_tail, head_less, head_or_tail, insert_has, insert_keeps, insert_only}
use Rattle.why_kept.proofs.OrderedKeys.{first_or_same, insert_sorted, key_total, less_is, lower_first, sorted_across, sorted_back, sorted_cons}
use Rattle.why_kept.proofs.OrderedKeys.{sorted_front, sorted_join, sorted_nil}
use Rattle.why_kept.proofs.Reasoning.{IsReason, reason_of, sources_low}

abbrev Key : Type 0
Key = ℕ × ℕ

-- ---- more items wait

-- what waits now waited before, or is one of these items
record Adds (sys : System) (levels : List ℕ) (xs : List ℕ) (old new : List Key) : Type 0 where
  sorted : IsStrictlySortedBy key_cmp new
  keeps : (y : Key) → Contains old y → Contains new y
  has : All (λ x. Contains new (key sys levels x)) xs
  only : (y : Key) → Contains new y → Contains old y ⊎ ((x : ℕ) × Contains xs x × (key sys levels x ≡ y))

pub same_key : (sys : System) (levels : List ℕ) (x : ℕ) → length levels ≡ sys.n → x < sys.n
    → (get_or levels x 0, x) ≡ key sys levels x
same_key sys levels x count lt =
    let level : get_or levels x 0 ≡ get_or levels x sys.n =
    get_or_default levels x 0 sys.n (subst (λ k. x < k) (sym count) lt) in
    λ i. (level i, x)

adds : (sys : System) (levels : List ℕ) (xs : List ℕ) (old : List Key) → length levels ≡ sys.n
    → All (λ x. x < sys.n) xs → IsStrictlySortedBy key_cmp old → Adds sys levels xs old (with_keys levels xs old)
adds sys levels [] old count low sorted = record {
  sorted = sorted;
  keeps = λ y has. has;
  has = All-nil (λ x. Contains old (key sys levels x));
  only = λ y has. inl has;
}
adds sys levels (x ∷ xs) old count low sorted =
    let k : Key = (get_or levels x 0, x) in
    let same : k ≡ key sys levels x = same_key sys levels x count (All-head (λ y. y < sys.n) x xs low) in
    let rest = adds sys levels xs (insert_key key_cmp old k) count (All-tail (λ y. y < sys.n) x xs low)
    (insert_sorted old k sorted) in
    record {
      sorted = rest.sorted;
      keeps = λ y has. rest.keeps y (insert_keeps old k y has);
      has = All-cons (λ y. Contains (with_keys levels (x ∷ xs) old) (key sys levels y)) x xs
          (rest.keeps (key sys levels x) (subst (Contains (insert_key key_cmp old k)) same (insert_has old k))) rest.has;
      only = λ y has. ⊎_elim
          (λ mid. ⊎_elim inl (λ is. inr (x, (0, omega arith, refl), sym same ∙ is)) (insert_only old k y mid))
          (λ more. inr (more.0, Contains-append_right (x ∷ []) xs more.0 more.1, more.2))
          (rest.only y has);
    }

-- ---- the bound of what waits

heavier : (n : ℕ) (rest : List Key) (k : Key) → k.0 * n + k.1 < weight n (rest ++ k ∷ [])
heavier n [] k = omega arith
heavier n (q ∷ rest) k = let tail = heavier n rest k in omega (arith, tail)

lighter : (n : ℕ) (q k : Key) → q.1 < n → key_cmp q k ≡ Less → q.0 * n + q.1 < k.0 * n + k.1
lighter n q k low less =
    ⊎_elim
    (λ lt. let within = mul-add-lt q.0 n q.1 k.0 lt low in let flip : n * k.0 ≡ k.0 * n = omega arith in
    omega (arith, within, flip))
    (λ same.
    let second : q.1 < k.1 = less_is q.1 k.1 same.1 in
    let first : q.0 * n ≡ k.0 * n = ap (λ z. z * n) same.0 in
    omega (arith, first, second))
    (first_or_same q k less)

all_lighter : (n : ℕ) (keys : List Key) (k : Key) → ((q : Key) → Contains keys q → (q.1 < n) × (key_cmp q k ≡ Less))
    → weight n keys ≤ k.0 * n + k.1
all_lighter n [] k all = omega arith
all_lighter n (q ∷ keys) k all =
    let first = all q (at_head q keys) in
    let light = lighter n q k first.0 first.1 in
    let rest = all_lighter n keys k (λ r has. all r (at_tail q keys r has)) in
    omega (arith, light, rest)

-- ---- one more step

module _ (sys : System) (levels : List ℕ) (valid : Valid sys) (certified : IsCertified sys levels)
    (least : AreLeast sys levels) where
  pub sources_in : (x : ℕ) → HasLevel sys levels x → All (λ y. y < sys.n) (sources_of (by_of sys levels x))
  sources_in x has = All-weaker (λ y. (y < sys.n) × (level_of sys levels y < level_of sys levels x)) (λ y. y < sys.n)
      (λ y is. is.0) (sources_of (by_of sys levels x)) (sources_low sys levels valid certified least x has)

  module _ (id : ℕ) (waiting rest : List Key) (k : Key) (steps : List WhyStep) (step : WhyStep)
      (told : AreTold sys levels id waiting steps) (popped : waiting ≡ rest ++ k ∷ []) (item : step.id ≡ k.1)
      (kept : step.by ≡ by_of sys levels k.1) where
    before : AreTold sys levels id (rest ++ k ∷ []) steps
    before = subst (λ w. AreTold sys levels id w steps) popped told

    abbrev steps_keys : List Key
    steps_keys = map (key_of sys levels) steps

    abbrev now : List Key
    now = with_keys levels (sources_of step.by) rest

    is_last : Contains (all_keys sys levels (rest ++ k ∷ []) steps) k
    is_last = Contains-append_left (rest ++ k ∷ []) steps_keys k (Contains-push rest k)

    k_is : (k.1 < sys.n) × (k.0 < sys.n) × (k ≡ key sys levels k.1)
    k_is = before.keys k is_last

    pub has_level : HasLevel sys levels k.1
    has_level = subst (λ (l : ℕ). l < sys.n) (ap (λ (z : Key). z.0) k_is.2) k_is.1

    pub item_in : k.1 < sys.n
    item_in = k_is.0

    same : key_of sys levels step ≡ k
    same = ap (key sys levels) item ∙ sym k_is.2

    was : IsStrictlySortedBy key_cmp (rest ++ (k ∷ steps_keys))
    was = subst (IsStrictlySortedBy key_cmp) (append_assoc rest (k ∷ []) steps_keys) before.ordered

    low : All (λ y. (y < sys.n) × (level_of sys levels y < level_of sys levels k.1)) (sources_of step.by)
    low = subst (λ b. All (λ y. (y < sys.n) × (level_of sys levels y < level_of sys levels k.1)) (sources_of b)) (sym kept)
        (sources_low sys levels valid certified least k.1 has_level)

    added : Adds sys levels (sources_of step.by) rest now
    added = adds sys levels (sources_of step.by) rest certified.count
        (All-weaker (λ y. (y < sys.n) × (level_of sys levels y < level_of sys levels k.1)) (λ y. y < sys.n) (λ y is. is.0)
        (sources_of step.by) low)
        (sorted_front rest (k ∷ steps_keys) was)

    -- what waits now stands before the step
    pub all_before : (q : Key) → Contains now q → key_cmp q k ≡ Less
    all_before q here = ⊎_elim
        (λ old. sorted_across rest (k ∷ steps_keys) q k was old (at_head k steps_keys))
        (λ more.
        let less : level_of sys levels more.0 < level_of sys levels k.1 =
        (All-contains (λ y. (y < sys.n) × (level_of sys levels y < level_of sys levels k.1)) (sources_of step.by) more.0 low
        more.1).1 in
        subst (λ z. key_cmp z k ≡ Less) more.2
        (subst (λ z. key_cmp (key sys levels more.0) z ≡ Less) (sym k_is.2)
        (lower_first (key sys levels more.0) (key sys levels k.1) less)))
        (added.only q here)

    now_in : (q : Key) → Contains now q → q.1 < sys.n
    now_in q here = ⊎_elim
        (λ old. (before.keys q (Contains-append_left (rest ++ k ∷ []) steps_keys q
        (Contains-append_left rest (k ∷ []) q old))).0)
        (λ more. subst (λ (z : Key). z.1 < sys.n) more.2
        (All-contains (λ y. (y < sys.n) × (level_of sys levels y < level_of sys levels k.1)) (sources_of step.by) more.0 low
        more.1).0)
        (added.only q here)

    move : (y : Key) → Contains (all_keys sys levels (rest ++ k ∷ []) steps) y
        → Contains (all_keys sys levels now (step ∷ steps)) y
    move y has = ⊎_elim
        (λ front. ⊎_elim
        (λ old. Contains-append_left now (key_of sys levels step ∷ steps_keys) y (added.keeps y old))
        (λ is. Contains-append_right now (key_of sys levels step ∷ steps_keys) y
        (subst (Contains (key_of sys levels step ∷ steps_keys)) (same ∙ is)
        (at_head (key_of sys levels step) steps_keys)))
        (Contains-push_cases rest k y front))
        (λ back. Contains-append_right now (key_of sys levels step ∷ steps_keys) y
        (at_tail (key_of sys levels step) steps_keys y back))
        (Contains-append_cases (rest ++ k ∷ []) steps_keys y has)

    -- a key is an old one, or that of an item by which the last step is kept
    old_or_new : (y : Key) → Contains (all_keys sys levels now (step ∷ steps)) y
        → Contains (all_keys sys levels (rest ++ k ∷ []) steps) y
        ⊎ ((x : ℕ) × Contains (sources_of step.by) x × (key sys levels x ≡ y))
    old_or_new y has = ⊎_elim
        (λ front. ⊎_elim
        (λ old. inl (Contains-append_left (rest ++ k ∷ []) steps_keys y (Contains-append_left rest (k ∷ []) y old)))
        inr (added.only y front))
        (λ back. ⊎_elim
        (λ is. inl (subst (Contains (all_keys sys levels (rest ++ k ∷ []) steps)) (sym same ∙ is) is_last))
        (λ old. inl (Contains-append_right (rest ++ k ∷ []) steps_keys y old))
        (head_or_tail (key_of sys levels step) steps_keys y back))
        (Contains-append_cases now (key_of sys levels step ∷ steps_keys) y has)

    -- and so the bound of what waits falls
    pub falls : weight sys.n now < weight sys.n (rest ++ k ∷ [])
    falls =
        let heavy = heavier sys.n rest k in
        let light = all_lighter sys.n now k (λ q here. (now_in q here, all_before q here)) in
        omega (arith, heavy, light)

    pub told_more : AreTold sys levels id now (step ∷ steps)
    told_more = record {
      ordered = sorted_join now (key_of sys levels step ∷ steps_keys) added.sorted
          (subst (λ z. IsStrictlySortedBy key_cmp (z ∷ steps_keys)) (sym same) (sorted_back rest (k ∷ steps_keys) was))
          (λ q r here there. ⊎_elim
          (λ is. subst (λ z. key_cmp q z ≡ Less) (sym same ∙ is) (all_before q here))
          (λ old. key_total.trans q k r (all_before q here)
          (head_less k steps_keys r (sorted_back rest (k ∷ steps_keys) was) old))
          (head_or_tail (key_of sys levels step) steps_keys r there));
      keys = λ y has. ⊎_elim (before.keys y)
          (λ more.
          let is = All-contains (λ z. (z < sys.n) × (level_of sys levels z < level_of sys levels k.1)) (sources_of step.by)
          more.0 low more.1 in
          let less = is.1 in
          let top = has_level in
          subst (λ (z : Key). (z.1 < sys.n) × (z.0 < sys.n) × (z ≡ key sys levels z.1)) more.2
          (is.0, omega (arith, less, top), refl))
          (old_or_new y has);
      by = All-cons (λ (s : WhyStep). s.by ≡ by_of sys levels s.id) step steps
          (kept ∙ ap (by_of sys levels) (sym item)) before.by;
      has = move (key sys levels id) before.has;
      sources = All-cons
          (λ (s : WhyStep). All (λ x. Contains (all_keys sys levels now (step ∷ steps)) (key sys levels x)) (sources_of s.by))
          step steps
          (All-weaker (λ x. Contains now (key sys levels x))
          (λ x. Contains (all_keys sys levels now (step ∷ steps)) (key sys levels x))
          (λ x here. Contains-append_left now (key_of sys levels step ∷ steps_keys) (key sys levels x) here)
          (sources_of step.by) added.has)
          (All-weaker
          (λ (s : WhyStep). All (λ x. Contains (all_keys sys levels (rest ++ k ∷ []) steps) (key sys levels x))
          (sources_of s.by))
          (λ (s : WhyStep). All (λ x. Contains (all_keys sys levels now (step ∷ steps)) (key sys levels x)) (sources_of s.by))
          (λ s all. All-weaker (λ x. Contains (all_keys sys levels (rest ++ k ∷ []) steps) (key sys levels x))
          (λ x. Contains (all_keys sys levels now (step ∷ steps)) (key sys levels x)) (λ x here. move (key sys levels x) here)
          (sources_of s.by) all)
          steps before.sources);
      only = λ y has. ⊎_elim
          (λ old. ⊎_elim inl
          (λ source. inr (source.0, Contains-append_right (step ∷ []) steps source.0 source.1, source.2))
          (before.only y old))
          (λ more. inr (
            step,
            (0, omega arith, refl),
            subst (λ (z : Key). Contains (sources_of step.by) z.1) more.2 more.1,
          ))
          (old_or_new y has);
    }

  -- ---- the derivation

  of_map : (steps : List WhyStep) (x : ℕ) → Contains (map (key_of sys levels) steps) (key sys levels x) → HasStep steps x
  of_map [] x (i, lt, is) = absurd (omega (arith, lt))
  of_map (step ∷ steps) x has = ⊎_elim
      (λ same. (step, (0, omega arith, refl), ap (λ (z : Key). z.1) same))
      (λ rest. let more = of_map steps x rest in
      (more.0, Contains-append_right (step ∷ []) steps more.0 more.1, more.2))
      (head_or_tail (key_of sys levels step) (map (key_of sys levels) steps) (key sys levels x) has)

  in_map : (steps : List WhyStep) (step : WhyStep) → Contains steps step
      → Contains (map (key_of sys levels) steps) (key_of sys levels step)
  in_map [] step (i, lt, is) = absurd (omega (arith, lt))
  in_map (s ∷ steps) step (zero, lt, is) =
      subst (Contains (map (key_of sys levels) (s ∷ steps))) (ap (key_of sys levels) is)
      (at_head (key_of sys levels s) (map (key_of sys levels) steps))
  in_map (s ∷ steps) step (suc i, lt, is) =
      at_tail (key_of sys levels s) (map (key_of sys levels) steps) (key_of sys levels step)
      (in_map steps step (i, omega (arith, lt), is))

  module _ (id : ℕ) (steps : List WhyStep) (told : AreTold sys levels id [] steps) where
    -- the steps tell a derivation of the item, as deep as its level
    record TellsOf (x : ℕ) : Type 0 where
      tree : Tree
      derives : IsDerivation sys tree
      item : item_of tree ≡ x
      deep : depth_of tree ≡ level_of sys levels x
      parts : IsTold steps tree

    tells_by : (x : ℕ) (b : By) → Contains steps (record { id = x; by = b }) → IsReason sys levels x b
        → All TellsOf (sources_of b) → TellsOf x
    tells_by x by.Seed there reason below = record {
      tree = tree.seed x;
      derives = reason.0;
      item = refl;
      deep = sym reason.1;
      parts = there;
    }
    tells_by x (by.Need y) there (lt, listed, is) below =
        let from = All-head TellsOf y [] below in
        record {
          tree = tree.need x from.tree;
          derives = (subst (λ z. Contains (needs_of sys z) x) (sym from.item) listed, from.derives);
          item = refl;
          deep = ap (λ n. n + 1) from.deep ∙ sym is;
          parts = (subst (λ z. Contains steps (record { id = x; by = by.Need z })) (sym from.item) there, from.parts);
        }
    tells_by x (by.Pair y z) there (listed, is) below =
        let one = All-head TellsOf y (z ∷ []) below in
        let two = All-head TellsOf z [] (All-tail TellsOf y (z ∷ []) below) in
        record {
          tree = tree.pair x one.tree two.tree;
          derives = (
            subst (λ w. Contains sys.pairs (pair_of w (item_of two.tree) x)) (sym one.item)
                (subst (λ w. Contains sys.pairs (pair_of y w x)) (sym two.item) listed),
            one.derives,
            two.derives,
          );
          item = refl;
          deep = ap (λ n. max n (depth_of two.tree) + 1) one.deep
              ∙ (ap (λ n. max (level_of sys levels y) n + 1) two.deep ∙ sym is);
          parts = (
            subst (λ w. Contains steps (record { id = x; by = by.Pair w (item_of two.tree) })) (sym one.item)
                (subst (λ w. Contains steps (record { id = x; by = by.Pair y w })) (sym two.item) there),
            one.parts,
            two.parts,
          );
        }

    step_level : (step : WhyStep) → Contains steps step → HasLevel sys levels step.id
    step_level step there = (told.keys (key_of sys levels step) (in_map steps step there)).1

    tells : (bound x : ℕ) → level_of sys levels x < bound → HasStep steps x → TellsOf x
    tells zero x less there = absurd (omega (arith, less))
    tells (suc bound) x less (step, there, item) =
        let kept : step.by ≡ by_of sys levels step.id =
        All-contains (λ (s : WhyStep). s.by ≡ by_of sys levels s.id) steps step told.by there in
        let has = step_level step there in
        let sources = All-contains (λ (s : WhyStep). All (λ y. Contains (all_keys sys levels [] steps) (key sys levels y))
        (sources_of s.by)) steps step told.sources there in
        let low : All (λ y. (y < sys.n) × (level_of sys levels y < level_of sys levels step.id)) (sources_of step.by) =
        subst (λ b. All (λ y. (y < sys.n) × (level_of sys levels y < level_of sys levels step.id)) (sources_of b)) (sym kept)
        (sources_low sys levels valid certified least step.id has) in
        let same : level_of sys levels step.id ≡ level_of sys levels x = ap (level_of sys levels) item in
        let below : All TellsOf (sources_of step.by) = λ j d lt.
        let lower : level_of sys levels (get_or (sources_of step.by) j d) < level_of sys levels step.id = (low j d lt).1 in
        tells bound (get_or (sources_of step.by) j d) (omega (arith, lower, less, same))
        (of_map steps (get_or (sources_of step.by) j d) (sources j d lt)) in
        subst TellsOf item (tells_by step.id step.by there
        (subst (IsReason sys levels step.id) (sym kept) (reason_of sys levels valid certified least step.id has)) below)

    pub explained : Explains sys levels id steps
    explained =
        let has : HasStep steps id = of_map steps id told.has in
        let from = tells (suc (level_of sys levels id)) id (omega arith) has in
        record {
          ordered = told.ordered;
          by = told.by;
          has = has;
          sources = All-weaker
              (λ (s : WhyStep). All (λ y. Contains (all_keys sys levels [] steps) (key sys levels y)) (sources_of s.by))
              (λ (s : WhyStep). All (HasStep steps) (sources_of s.by))
              (λ s all. All-weaker (λ y. Contains (all_keys sys levels [] steps) (key sys levels y)) (HasStep steps)
              (λ y here. of_map steps y here) (sources_of s.by) all)
              steps told.sources;
          only = λ j d lt. told.only (key_of sys levels (get_or steps j d))
              (in_map steps (get_or steps j d) (Contains-get_or steps j d lt));
          tree = from.tree;
          derives = from.derives;
          item = from.item;
          deep = from.deep;
          told = from.parts;
        }

-- ---- the first item

pub told_first : (sys : System) (levels : List ℕ) (id : ℕ) → id < sys.n → HasLevel sys levels id
    → AreTold sys levels id (key sys levels id ∷ []) []
told_first sys levels id lt has =
    let only : (y : Key) → Contains (key sys levels id ∷ []) y → key sys levels id ≡ y = λ y there. ⊎_elim (λ is. is)
    (λ none. absurd (let low : none.0 < 0 = none.1 in omega (arith, low))) (head_or_tail (key sys levels id) [] y there) in
    record {
      ordered = sorted_cons (key sys levels id) []
          (λ y none. absurd (let low : none.0 < 0 = none.1 in omega (arith, low))) sorted_nil;
      keys = λ y there. subst (λ (z : Key). (z.1 < sys.n) × (z.0 < sys.n) × (z ≡ key sys levels z.1)) (only y there)
          (lt, has, refl);
      by = All-nil (λ (s : WhyStep). s.by ≡ by_of sys levels s.id);
      has = at_head (key sys levels id) [];
      sources = All-nil (λ (s : WhyStep). All (λ x. Contains (key sys levels id ∷ []) (key sys levels x)) (sources_of s.by));
      only = λ y there. inl (ap (λ (z : Key). z.1) (sym (only y there)));
    }

-- ---- the next step, as the code takes it

pub item_told : (sys : System) (levels : List ℕ) (id : ℕ) (waiting rest : List Key) (k : Key) (steps : List WhyStep)
    → AreTold sys levels id waiting steps → waiting ≡ rest ++ k ∷ []
    → (k.1 < sys.n) × (k.0 < sys.n) × (k ≡ key sys levels k.1)
item_told sys levels id waiting rest k steps told popped =
    told.keys k (Contains-append_left waiting (map (key_of sys levels) steps) k
    (subst (λ w. Contains w k) (sym popped) (Contains-push rest k)))

module _ (sys : System) (levels : List ℕ) (valid : Valid sys) (certified : IsCertified sys levels)
    (least : AreLeast sys levels) (id : ℕ) (waiting rest : List Key) (k : Key) (steps : List WhyStep) (sources : List By)
    (noted : AreNoted sys.n (by_of sys levels) sources) (told : AreTold sys levels id waiting steps)
    (popped : waiting ≡ rest ++ k ∷ []) where
  abbrev by_noted : By
  by_noted = get_or sources k.1 by.Seed

  abbrev next_step : WhyStep
  next_step = record { id = k.1; by = by_noted }

  is_noted : by_noted ≡ by_of sys levels k.1
  is_noted = noted.each k.1 (item_told sys levels id waiting rest k steps told popped).0

  pub kept_low : All (λ x. x < length levels) (sources_of by_noted)
  kept_low =
      subst (λ n. All (λ x. x < n) (sources_of by_noted)) (sym certified.count)
      (subst (λ b. All (λ x. x < sys.n) (sources_of b)) (sym is_noted)
      (sources_in sys levels valid certified least k.1
      (has_level sys levels valid certified least id waiting rest k steps next_step told popped refl is_noted)))

  pub told_next : AreTold sys levels id (with_keys levels (sources_of by_noted) rest) (next_step ∷ steps)
  told_next = told_more sys levels valid certified least id waiting rest k steps next_step told popped refl is_noted

  pub falls_next : weight sys.n (with_keys levels (sources_of by_noted) rest) < weight sys.n waiting
  falls_next =
      subst (λ w. weight sys.n (with_keys levels (sources_of by_noted) rest) < weight sys.n w) (sym popped)
      (falls sys levels valid certified least id waiting rest k steps next_step told popped refl is_noted)

-- ---- the answer

pub no_keys : (keys : List Key) → length keys ≡ 0 → keys ≡ []
no_keys [] e = refl
no_keys (k ∷ keys) e = absurd (omega (arith, e))

pub steps_none : (sys : System) (levels : List ℕ) (id : ℕ) (steps : List WhyStep) → sys.n ≤ level_of sys levels id
    → steps ≡ [] → AreSteps sys levels id steps
steps_none sys levels id steps le none =
    subst (λ b. MatchBool b (Explains sys levels id steps) (steps ≡ [])) (sym (le-ltb (level_of sys levels id) sys.n le)) none

pub steps_some : (sys : System) (levels : List ℕ) (id : ℕ) (steps : List WhyStep) → HasLevel sys levels id
    → Explains sys levels id steps → AreSteps sys levels id steps
steps_some sys levels id steps has told =
    subst (λ b. MatchBool b (Explains sys levels id steps) (steps ≡ [])) (sym (lt-ltb (level_of sys levels id) sys.n has)) told
