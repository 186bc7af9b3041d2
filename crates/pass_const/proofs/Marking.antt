-- Which local variables are marked, and the list of them.
use Rattle.std.proofs.Common.{ℕ, zero, suc, ◌+◌, ◌-◌, ◌<◌, ◌≤◌, List, [], ◌∷◌, ◌++◌, Option, Some}
use Rattle.std.proofs.Common.{None, Bool, true, false, ◌≡◌, ◌≢◌, ◌⊎◌, inl, inr, refl, sym, ap, ◌∙◌}
use Rattle.std.proofs.Common.{subst, arith, length, get_or}
use Rattle.std.specs.Prelude.{AllPairs, ◌↔◌, map, slice_get, slice_index_or, if◌then◌else◌}
use Rattle.std.specs.List.{Contains}
use Rattle.std.specs.Option.{is_some}
use Rattle.std.proofs.lemmas.Bool.{cases_lt}
use Rattle.std.proofs.lemmas.List.Elements.{Contains-append_left, Contains-append_right}
use Rattle.std.proofs.lemmas.List.Elements.{Contains-push}
use Rattle.class_model.specs.declared.code.Code.{Code}
use Rattle.class_model.specs.declared.code.Ins.{Ins}
use Rattle.class_model.specs.declared.op.Kind.TheVariants as kind
use Rattle.class_model.specs.declared.op.Op.{Op}
use Rattle.class_model.specs.declared.op.Op.TheVariants as op
use Rattle.code_edit.specs.ConstEdits.{AreSlots, IsAsked, IsLoad, TakesFrom}
use Rattle.code_edit.specs.Deciding.{Count, NoOperand, OneOperand, TwoOperands, operands}
use Rattle.edit_tables.specs.Loads.{slot_count, slot_end}
use Rattle.edit_tables.specs.Marks.{has, marked, none, put}
use Rattle.edit_tables.specs.Places.{lives_in}
use Rattle.edit_tables.specs.Spread.{spread}
use Rattle.edit_tables.proofs.Loading.{slot_within}
use Rattle.edit_tables.proofs.Marking.{has_none, has_outside, marked_long, none_long}
use Rattle.edit_tables.proofs.Naming.{Named, spread_tells}
use Rattle.edit_tables.proofs.Telling.{Tells}
use Rattle.pass_const.specs.Taking.{asked_marks, asks, count_marks, is_asking, listed, load_by}
use Rattle.pass_const.specs.Taking.{load_of, marked_from, second_of, slot_marks, takes_from}

-- ---- marks one after another

pub marked_both : (xs ys : List ℕ) (ms : List Bool)
    → marked (xs ++ ys) ms ≡ marked ys (marked xs ms)
marked_both [] ys ms = refl
marked_both (x ∷ xs) ys ms = marked_both xs ys (put x ms)

pub count_is : (i : ℕ) (ms : List Bool) → length (marked_from i ms) ≡ count_marks ms
count_is i [] = refl
count_is i (true ∷ ms) = ap suc (count_is (suc i) ms)
count_is i (false ∷ ms) = count_is (suc i) ms

-- ---- the marked indices, ascending

-- each item is above those before it, and the first one is n or more
abbrev Above : ℕ → List ℕ → Type 0
Above n [] = Unit {0}
Above n (x ∷ xs) = (n ≤ x) × Above (suc x) xs

above_weaker : (m n : ℕ) → m ≤ n → (xs : List ℕ) → Above n xs → Above m xs
above_weaker m n le [] h = tt
above_weaker m n le (x ∷ xs) h = ((let q : n ≤ x = h.0 in omega (arith, le, q)), h.1)

marked_above : (i : ℕ) (ms : List Bool) → Above i (marked_from i ms)
marked_above i [] = tt
marked_above i (true ∷ ms) = (omega arith, marked_above (suc i) ms)
marked_above i (false ∷ ms) =
    above_weaker i (suc i) (omega arith) (marked_from (suc i) ms) (marked_above (suc i) ms)

above_get : (n : ℕ) (xs : List ℕ) → Above n xs → (j d : ℕ) → j < length xs → n ≤ get_or xs j d
above_get n [] h j d lt = absurd (omega (arith, lt))
above_get n (x ∷ xs) h zero d lt = h.0
above_get n (x ∷ xs) h (suc j) d lt =
    let q : n ≤ x = h.0 in
    let r : suc x ≤ get_or xs j d = above_get (suc x) xs h.1 j d (omega (arith, lt)) in
    omega (arith, q, r)

pairs : (n : ℕ) (xs : List ℕ) → Above n xs → AllPairs (λ one other. one < other) xs
pairs n [] h i j d lt le = absurd (omega (arith, le))
pairs n (x ∷ xs) h zero zero d lt le = absurd (omega (arith, lt))
pairs n (x ∷ xs) h (suc i) zero d lt le = absurd (omega (arith, lt))
pairs n (x ∷ xs) h zero (suc j) d lt le = above_get (suc x) xs h.1 j d (omega (arith, le))
pairs n (x ∷ xs) h (suc i) (suc j) d lt le =
    pairs (suc x) xs h.1 i j d (omega (arith, lt)) (omega (arith, le))

in_cons : (s : ℕ) (xs : List ℕ) (x : ℕ) → Contains (s ∷ xs) x → (s ≡ x) ⊎ Contains xs x
in_cons s xs x (zero, lt, e) = inl e
in_cons s xs x (suc k, lt, e) = inr (k, omega (arith, lt), e)

head_in : (t : ℕ) (ts : List ℕ) → Contains (t ∷ ts) t
head_in t ts = Contains-append_left (t ∷ []) ts t (Contains-push [] t)

tail_in : (t : ℕ) (ts : List ℕ) (u : ℕ) → Contains ts u → Contains (t ∷ ts) u
tail_in t ts u h = Contains-append_right (t ∷ []) ts u h

in_marked : (i : ℕ) (ms : List Bool) (slot : ℕ) → Contains (marked_from i ms) slot
    → (k : ℕ) × (slot ≡ i + k) × (has ms k ≡ true)
in_marked i [] slot h = absurd (let lt : h.0 < 0 = h.1 in omega (arith, lt))
in_marked i (true ∷ ms) slot h =
    by (in_cons i (marked_from (suc i) ms) slot h) (λ k. in_marked (suc i) ms slot k)
  where
    by : (i ≡ slot) ⊎ Contains (marked_from (suc i) ms) slot
        → (Contains (marked_from (suc i) ms) slot
        → (k : ℕ) × (slot ≡ suc i + k) × (has ms k ≡ true))
        → (k : ℕ) × (slot ≡ i + k) × (has (true ∷ ms) k ≡ true)
    by (inl e) more = (0, omega (arith, e), refl)
    by (inr h) more = let r = more h in
        (suc r.0, (let e : slot ≡ suc i + r.0 = r.1 in omega (arith, e)), r.2)
in_marked i (false ∷ ms) slot h =
    let r = in_marked (suc i) ms slot h in
    (suc r.0, (let e : slot ≡ suc i + r.0 = r.1 in omega (arith, e)), r.2)

there_marked : (i : ℕ) (ms : List Bool) (k slot : ℕ) → slot ≡ i + k → has ms k ≡ true
    → Contains (marked_from i ms) slot
there_marked i [] k slot e h = absurd cc
there_marked i (true ∷ ms) zero slot e h =
    let same : i ≡ slot = omega (arith, e) in
    subst (Contains (i ∷ marked_from (suc i) ms)) same (head_in i (marked_from (suc i) ms))
there_marked i (true ∷ ms) (suc k) slot e h =
    tail_in i (marked_from (suc i) ms) slot
    (there_marked (suc i) ms k slot (omega (arith, e)) h)
there_marked i (false ∷ ms) zero slot e h = absurd cc
there_marked i (false ∷ ms) (suc k) slot e h =
    there_marked (suc i) ms k slot (omega (arith, e)) h

-- marks on what has a property are the list of it
pub are_slots : (Has : ℕ → Type 0) (ms : List Bool)
    → ((slot : ℕ) → has ms slot ≡ true → Has slot) → ((slot : ℕ) → Has slot → has ms slot ≡ true)
    → AreSlots Has (marked_from 0 ms)
are_slots Has ms forth back = record {
  ascending = pairs 0 (marked_from 0 ms) (marked_above 0 ms);
  are = λ slot. (
    (λ h. let r = in_marked 0 ms slot h in
        let same : slot ≡ r.0 = (let e : slot ≡ 0 + r.0 = r.1 in omega (arith, e)) in
        forth slot (subst (λ k. has ms k ≡ true) (sym same) r.2)),
    (λ h. there_marked 0 ms slot slot (let e : slot ≡ 0 + slot = omega arith in e) (back slot h)),
  );
}

-- ---- operands

load_is : (o : Op) (slot : ℕ) → load_of o ≡ Some slot → o ≡ op.Load kind.Int slot
load_is (op.Load kind.Int s) slot e = let same : s ≡ slot = cc in ap (λ x. op.Load kind.Int x) same
load_is o slot e = absurd cc

load_there : (o : Option Ins) (slot : ℕ) → load_by o ≡ Some slot
    → (i : Ins) × (o ≡ Some i) × (i.op ≡ op.Load kind.Int slot)
load_there None slot e = absurd cc
load_there (Some i) slot e = (i, refl, load_is i.op slot e)

there_load : (o : Option Ins) (slot : ℕ) (i : Ins) → o ≡ Some i → i.op ≡ op.Load kind.Int slot
    → load_by o ≡ Some slot
there_load o slot i e l = ap load_by e ∙ ap load_of l

first_or : (o : Option ℕ) (ys : List ℕ) (n slot : ℕ) → slice_get (listed o ++ ys) n ≡ Some slot
    → (o ≡ Some slot) ⊎ ((m : ℕ) × (slice_get ys m ≡ Some slot))
first_or None ys n slot e = inr (n, e)
first_or (Some s) ys zero slot e = inl e
first_or (Some s) ys (suc m) slot e = inr (m, e)

second_is : (c : Count) (o : Option ℕ) (m slot : ℕ) → slice_get (second_of c o) m ≡ Some slot
    → (c ≡ TwoOperands) × (o ≡ Some slot)
second_is TwoOperands (Some s) zero slot e = (refl, e)
second_is TwoOperands (Some s) (suc m) slot e = absurd cc
second_is TwoOperands None m slot e = absurd cc
second_is OneOperand o m slot e = absurd cc
second_is NoOperand o m slot e = absurd cc

behind : (o : Option ℕ) (s : ℕ) → (n : ℕ) × (slice_get (listed o ++ s ∷ []) n ≡ Some s)
behind None s = (0, refl)
behind (Some t) s = (1, refl)

module _ (code : Code) where
  takes_there : (at : ℕ) (i : Ins) (n slot : ℕ) → slice_get (takes_from code at i) n ≡ Some slot
      → TakesFrom code at i slot
  takes_there at i n slot e = by
      (first_or (load_by (slice_get code.ins (at - 1)))
      (second_of (operands i.op) (load_by (slice_get code.ins (at - 2)))) n slot e)
    where
      by : (load_by (slice_get code.ins (at - 1)) ≡ Some slot)
          ⊎ ((m : ℕ) × (slice_get
          (second_of (operands i.op) (load_by (slice_get code.ins (at - 2)))) m ≡ Some slot))
          → TakesFrom code at i slot
      by (inl l) = inl (load_there (slice_get code.ins (at - 1)) slot l)
      by (inr r) =
          let q = second_is (operands i.op) (load_by (slice_get code.ins (at - 2))) r.0 slot r.1 in
          inr (q.0, load_there (slice_get code.ins (at - 2)) slot q.1)

  there_takes : (at : ℕ) (i : Ins) (slot : ℕ) → TakesFrom code at i slot
      → (n : ℕ) × (slice_get (takes_from code at i) n ≡ Some slot)
  there_takes at i slot (inl l) = (
    0,
    ap (λ o. slice_get (listed o
        ++ second_of (operands i.op) (load_by (slice_get code.ins (at - 2)))) 0)
        (there_load (slice_get code.ins (at - 1)) slot l.0 l.1 l.2),
  )
  there_takes at i slot (inr r) =
      let b = behind (load_by (slice_get code.ins (at - 1))) slot in (
        b.0,
        ap (λ c. slice_get (listed (load_by (slice_get code.ins (at - 1)))
            ++ second_of c (load_by (slice_get code.ins (at - 2)))) b.0) r.0
            ∙ ap (λ o. slice_get (listed (load_by (slice_get code.ins (at - 1))) ++ listed o) b.0)
            (there_load (slice_get code.ins (at - 2)) slot r.1.0 r.1.1 r.1.2) ∙ b.1,
      )

  -- what is loaded is named by the code
  load_below : (slot at : ℕ) → IsLoad code slot at → slot < slot_count code.ins
  load_below slot at l =
      let within = slot_within code.ins at l.0 l.1 in
      let end : slot_end l.0.op ≡ slot + 1 = ap slot_end l.2 in
      omega (arith, within, end)

  takes_below : (at : ℕ) (i : Ins) (slot : ℕ) → TakesFrom code at i slot
      → slot < slot_count code.ins
  takes_below at i slot (inl l) = load_below slot (at - 1) l
  takes_below at i slot (inr r) = load_below slot (at - 2) r.1

  module _ (chosen : List Bool) where
    names : ℕ → Ins → List ℕ
    names = takes_from code

    pub spread_length : (k : ℕ) (ins : List Ins) (ms : List Bool)
        → length (spread (takes_from code) chosen k ins ms) ≡ length ms
    spread_length k [] ms = refl
    spread_length k (i ∷ ins) ms =
        spread_length (suc k) ins
        (if lives_in chosen k then marked (takes_from code k i) ms else ms)
        ∙ by (lives_in chosen k)
      where
        by : (b : Bool) → length (if b then marked (takes_from code k i) ms else ms) ≡ length ms
        by true = marked_long (takes_from code k i) ms
        by false = refl

    pub marks_long : length (slot_marks code chosen) ≡ slot_count code.ins
    marks_long = spread_length 0 code.ins (none (slot_count code.ins))
        ∙ none_long (slot_count code.ins)

    -- an instruction that is chosen takes an operand from the slot
    abbrev pub IsChosen : ℕ → Type 0
    IsChosen slot = (at : ℕ) × (i : Ins) × (slice_get code.ins at ≡ Some i)
        × (lives_in chosen at ≡ true) × TakesFrom code at i slot

    tells : (slot : ℕ) → slot < slot_count code.ins
        → Tells (has (slot_marks code chosen) slot) (Named (takes_from code) chosen slot 0 code.ins)
    tells slot lt = spread_tells (takes_from code) chosen slot code.ins (none (slot_count code.ins))
        (subst (λ n. slot < n) (sym (none_long (slot_count code.ins))) lt)
        (has_none (slot_count code.ins) slot)

    pub marked_below : (slot : ℕ) → has (slot_marks code chosen) slot ≡ true
        → slot < slot_count code.ins
    marked_below slot h = by (cases_lt slot (slot_count code.ins))
      where
        by : (slot < slot_count code.ins) ⊎ (slot_count code.ins ≤ slot)
            → slot < slot_count code.ins
        by (inl lt) = lt
        by (inr le) = absurd (let q : false ≡ true = sym (has_outside (slot_marks code chosen) slot
            (subst (λ n. n ≤ slot) (sym marks_long) le)) ∙ h in cc)

    pub marked_chosen : (slot : ℕ) → has (slot_marks code chosen) slot ≡ true → IsChosen slot
    marked_chosen slot h = by (tells slot (marked_below slot h))
      where
        by : Tells (has (slot_marks code chosen) slot)
            (Named (takes_from code) chosen slot 0 code.ins) → IsChosen slot
        by (inl q) =
            let x = q.1 in
            let z : 0 + x.0 ≡ x.0 = omega arith in (
              x.0,
              x.2,
              x.3,
              subst (λ m. lives_in chosen m ≡ true) z x.4,
              takes_there x.0 x.2 x.1 slot
                  (subst (λ m. slice_get (takes_from code m x.2) x.1 ≡ Some slot) z x.5),
            )
        by (inr q) = absurd (let e : true ≡ false = sym h ∙ q.0 in cc)

    pub chosen_marked : (slot : ℕ) → IsChosen slot → has (slot_marks code chosen) slot ≡ true
    chosen_marked slot (at, i, here, lives, takes) =
        by (tells slot (takes_below at i slot takes))
      where
        by : Tells (has (slot_marks code chosen) slot)
            (Named (takes_from code) chosen slot 0 code.ins)
            → has (slot_marks code chosen) slot ≡ true
        by (inl q) = q.0
        by (inr q) =
            let z : at ≡ 0 + at = omega arith in
            let n = there_takes at i slot takes in
            absurd (q.1 (
              at,
              n.0,
              i,
              here,
              subst (λ m. lives_in chosen m ≡ true) z lives,
              subst (λ m. slice_get (takes_from code m i) n.0 ≡ Some slot) z n.1,
            ))

-- ---- what is chosen

mapped : {A : Type 0} (f : A → Bool) (xs : List A) (at : ℕ) (x : A) → slice_get xs at ≡ Some x
    → lives_in (map f xs) at ≡ f x
mapped f [] at x e = absurd cc
mapped f (y ∷ ys) zero x e = let same : y ≡ x = cc in ap f same
mapped f (y ∷ ys) (suc at) x e = mapped f ys at x e

asks_some : (c : Count) → is_asking c ≡ true → c ≢ NoOperand
asks_some NoOperand e n = cc
asks_some OneOperand e n = cc
asks_some TwoOperands e n = cc

some_asks : (c : Count) → c ≢ NoOperand → is_asking c ≡ true
some_asks NoOperand n = absurd (n refl)
some_asks OneOperand n = refl
some_asks TwoOperands n = refl

module _ (code : Code) where
  abbrev asking : List Bool
  asking = map (λ (i : Ins). asks i.op) code.ins

  marked_asked : (slot : ℕ) → has (asked_marks code) slot ≡ true → IsAsked code slot
  marked_asked slot h =
      let x = marked_chosen code asking slot h in (
        x.0,
        x.1,
        x.2,
        asks_some (operands x.1.op)
            (sym (mapped (λ (i : Ins). asks i.op) code.ins x.0 x.1 x.2) ∙ x.3),
        x.4,
      )

  pub asked_marked : (slot : ℕ) → IsAsked code slot → has (asked_marks code) slot ≡ true
  asked_marked slot (at, i, here, some, takes) = chosen_marked code asking slot (
    at,
    i,
    here,
    mapped (λ (i : Ins). asks i.op) code.ins at i here
        ∙ some_asks (operands i.op) some,
    takes,
  )

  pub asked_slots : AreSlots (IsAsked code) (marked_from 0 (asked_marks code))
  asked_slots = are_slots (IsAsked code) (asked_marks code) marked_asked asked_marked

  pub asked_below : (slot : ℕ) → IsAsked code slot → slot < length (asked_marks code)
  asked_below slot h = subst (λ n. slot < n) (sym (marks_long code asking))
      (marked_below code asking slot (asked_marked slot h))
