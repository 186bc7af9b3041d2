-- What reach finds is legal.
use Rattle.std.proofs.Common.{ℕ, zero, suc, ◌+◌, ◌-◌, ◌<◌, ◌≤◌, List, [], ◌∷◌, Option, Some, None}
use Rattle.std.proofs.Common.{Bool, true, false, ◌≡◌, ◌⊎◌, inl, inr, refl, sym, ap, ◌∙◌, subst}
use Rattle.std.proofs.Common.{arith}
use Rattle.std.specs.Prelude.{length, nat_le, not, slice_get, slice_index_or, ◌&&◌, ◌||◌}
use Rattle.std.specs.List.{list_any}
use Rattle.std.proofs.lemmas.Bool.Decides.{leb_tells}
use Rattle.jv_base.proofs.Lists.{got_right}
use Rattle.class_model.specs.declared.code.Code.{Code}
use Rattle.code_edit.specs.declared.act.Act.{Act}
use Rattle.code_edit.specs.declared.act.Act.TheVariants as act
use Rattle.code_edit.specs.declared.act.Pass.TheVariants as pass
use Rattle.code_edit.specs.Flow.{next_of, targets}
use Rattle.code_edit.specs.Legal.{AreLegal, IsLegalAt, IsStillAimedAt, branch, entry, share_place}
use Rattle.code_edit.specs.Passes.{IsReached, TellsReached, run_up_to, runs}
use Rattle.code_edit.specs.Passes as reached
use Rattle.code_edit.specs.Reach.{IsNeeded, drops, is_left}
use Rattle.code_edit.specs.Reach as needed
use Rattle.code_edit.specs.SoundCode.{IsSound}
use Rattle.edit_premises.proofs.Places.{get_below}

-- ---- tests

pub is_le : (a b : ℕ) → nat_le a b ≡ true → a ≤ b
is_le a b e = by (leb_tells a b)
  where
    by : ((nat_le a b ≡ true) × (a ≤ b)) ⊎ ((nat_le a b ≡ false) × (b < a)) → a ≤ b
    by (inl q) = q.1
    by (inr q) = absurd (let no : true ≡ false = sym e ∙ q.0 in cc)

pub le_is : (a b : ℕ) → a ≤ b → nat_le a b ≡ true
le_is a b le = by (leb_tells a b)
  where
    by : ((nat_le a b ≡ true) × (a ≤ b)) ⊎ ((nat_le a b ≡ false) × (b < a)) → nat_le a b ≡ true
    by (inl q) = q.0
    by (inr q) = absurd (omega (arith, le, q.1))

pub above : (a b : ℕ) → b < a → nat_le a b ≡ false
above a b lt = by (leb_tells a b)
  where
    by : ((nat_le a b ≡ true) × (a ≤ b)) ⊎ ((nat_le a b ≡ false) × (b < a)) → nat_le a b ≡ false
    by (inl q) = absurd (omega (arith, lt, q.1))
    by (inr q) = q.0

pub and_both : (a b : Bool) → a ≡ true → b ≡ true → (a && b) ≡ true
and_both true b p q = q
and_both false b p q = absurd cc

both : (a b : Bool) → (a && b) ≡ true → (a ≡ true) × (b ≡ true)
both true b e = (refl, e)
both false b e = absurd cc

pub and_none : (a b : Bool) → b ≡ false → (a && b) ≡ false
and_none true b e = e
and_none false b e = refl

pub left_or : (a b : Bool) → a ≡ true → (a || b) ≡ true
left_or true b e = refl
left_or false b e = absurd cc

pub right_or : (a b : Bool) → b ≡ true → (a || b) ≡ true
right_or true b e = refl
right_or false b e = e

-- ---- runs

module _ (code : Code) (marks : List Bool) where
  abbrev n : ℕ
  n = length code.ins

  abbrev Unmarked : ℕ → Type 0
  Unmarked at = slice_index_or marks at false ≡ false

  -- drops of indices without a mark, ascending from an index on
  abbrev AreDrops : ℕ → List Act → Type 0
  AreDrops low [] = Unit {0}
  AreDrops low (act.Drop from to ∷ acts) =
      (low ≤ from) × (from ≤ to) × (to < n)
      × ((at : ℕ) → from ≤ at → at ≤ to → Unmarked at) × AreDrops (to + 1) acts
  AreDrops low (a ∷ acts) = ⊥

  -- a run began at an index, from a number on
  abbrev Began : ℕ → ℕ → Option ℕ → Type 0
  Began low k None = low ≤ k
  Began low k (Some from) =
      (low ≤ from) × (from < k) × ((at : ℕ) → from ≤ at → at < k → Unmarked at)

  abbrev begins : ℕ → Option ℕ → ℕ
  begins k None = k
  begins k (Some from) = from

  -- these are the marks from an index on
  abbrev AreRest : ℕ → List Bool → Type 0
  AreRest k ms =
      (j : ℕ) → slice_index_or ms j false ≡ slice_index_or marks (k + j) false

  rest_next : (k : ℕ) (b : Bool) (ms : List Bool) → AreRest k (b ∷ ms) → AreRest (suc k) ms
  rest_next k b ms rest j =
      let e : k + suc j ≡ suc k + j = omega arith in
      rest (suc j) ∙ ap (λ m. slice_index_or marks m false) e

  here : (k : ℕ) (b : Bool) (ms : List Bool) → AreRest k (b ∷ ms)
      → slice_index_or marks k false ≡ b
  here k b ms rest =
      let e : k ≡ k + 0 = omega arith in
      ap (λ m. slice_index_or marks m false) e ∙ sym (rest 0)

  begun : (k low : ℕ) (began : Option ℕ) → Began low k began → Unmarked k
      → Began low (suc k) (Some (begins k began))
  begun k low None b u =
      (b, omega arith, λ at p q. let e : k ≡ at = omega (arith, p, q) in subst Unmarked e u)
  begun k low (Some from) b u =
      (b.0, omega (arith, b.1), λ at p q. by at p (leb_tells (suc at) k) q)
    where
      by : (at : ℕ) → from ≤ at
          → ((nat_le (suc at) k ≡ true) × (suc at ≤ k)) ⊎ ((nat_le (suc at) k ≡ false) × (k < suc at))
          → at < suc k → Unmarked at
      by at p (inl x) q = b.2 at p (omega (arith, x.1))
      by at p (inr x) q = let e : k ≡ at = omega (arith, x.1, q) in subst Unmarked e u

  runs_drop : (ms : List Bool) (k low : ℕ) (began : Option ℕ) → k + length ms ≡ n
      → AreRest k ms → Began low k began → AreDrops low (runs k began ms)
  runs_drop [] k low None e rest b = tt
  runs_drop [] k low (Some from) e rest b = (
    b.0,
    omega (arith, b.1),
    omega (arith, e, b.1),
    λ at p q. b.2 at p (omega (arith, q, b.1)),
    tt,
  )
  runs_drop (true ∷ ms) k low None e rest b =
      runs_drop ms (suc k) low None (omega (arith, e)) (rest_next k true ms rest)
      (omega (arith, b))
  runs_drop (true ∷ ms) k low (Some from) e rest b = (
    b.0,
    omega (arith, b.1),
    omega (arith, e, b.1),
    λ at p q. b.2 at p (omega (arith, q, b.1)),
    runs_drop ms (suc k) (k - 1 + 1) None (omega (arith, e)) (rest_next k true ms rest)
        (omega (arith, b.1)),
  )
  runs_drop (false ∷ ms) k low None e rest b =
      runs_drop ms (suc k) low (Some k) (omega (arith, e)) (rest_next k false ms rest)
      (begun k low None b (here k false ms rest))
  runs_drop (false ∷ ms) k low (Some from) e rest b =
      runs_drop ms (suc k) low (Some from) (omega (arith, e)) (rest_next k false ms rest)
      (begun k low (Some from) b (here k false ms rest))

  -- each index without a mark is dropped
  all_dropped : (ms : List Bool) (k : ℕ) (began : Option ℕ) → k + length ms ≡ n → AreRest k ms
      → (at : ℕ) → begins k began ≤ at → at < n → Unmarked at
      → list_any (drops at) (runs k began ms) ≡ true
  all_dropped [] k None e rest at p q u = absurd (omega (arith, e, p, q))
  all_dropped [] k (Some from) e rest at p q u =
      left_or _ false
      (and_both _ _ (le_is from at p) (le_is at (k - 1) (omega (arith, e, q))))
  all_dropped (true ∷ ms) k None e rest at p q u = by (leb_tells (suc k) at)
      (λ p'. all_dropped ms (suc k) None (omega (arith, e)) (rest_next k true ms rest) at p' q u)
    where
      by : ((nat_le (suc k) at ≡ true) × (suc k ≤ at)) ⊎ ((nat_le (suc k) at ≡ false) × (at < suc k))
          → (suc k ≤ at → list_any (drops at) (runs (suc k) None ms) ≡ true)
          → list_any (drops at) (runs (suc k) None ms) ≡ true
      by (inl x) more = more x.1
      by (inr x) more =
          let same : k ≡ at = omega (arith, p, x.1) in
          let no : true ≡ false =
          sym (here k true ms rest) ∙ ap (λ m. slice_index_or marks m false) same ∙ u in
          absurd cc
  all_dropped (true ∷ ms) k (Some from) e rest at p q u = by (leb_tells (suc k) at)
      (λ p'. all_dropped ms (suc k) None (omega (arith, e)) (rest_next k true ms rest) at p' q u)
    where
      early : ((nat_le (suc at) k ≡ true) × (suc at ≤ k)) ⊎ ((nat_le (suc at) k ≡ false) × (k < suc at))
          → at < suc k → ((nat_le from at && nat_le at (k - 1))
          || list_any (drops at) (runs (suc k) None ms)) ≡ true
      early (inl x) y =
          left_or _ _ (and_both _ _ (le_is from at p) (le_is at (k - 1) (omega (arith, x.1))))
      early (inr x) y =
          let same : k ≡ at = omega (arith, x.1, y) in
          let no : true ≡ false =
          sym (here k true ms rest) ∙ ap (λ m. slice_index_or marks m false) same ∙ u in
          absurd cc

      by : ((nat_le (suc k) at ≡ true) × (suc k ≤ at)) ⊎ ((nat_le (suc k) at ≡ false) × (at < suc k))
          → (suc k ≤ at → list_any (drops at) (runs (suc k) None ms) ≡ true)
          → ((nat_le from at && nat_le at (k - 1))
          || list_any (drops at) (runs (suc k) None ms)) ≡ true
      by (inl x) more = right_or _ _ (more x.1)
      by (inr x) more = early (leb_tells (suc at) k) x.1
  all_dropped (false ∷ ms) k None e rest at p q u =
      all_dropped ms (suc k) (Some k) (omega (arith, e)) (rest_next k false ms rest) at p q u
  all_dropped (false ∷ ms) k (Some from) e rest at p q u =
      all_dropped ms (suc k) (Some from) (omega (arith, e)) (rest_next k false ms rest) at p q u

  -- ---- one drop

  abbrev OneDrop : ℕ → Act → Type 0
  OneDrop low a = (from to : ℕ) × (a ≡ act.Drop from to) × (low ≤ from) × (from ≤ to) × (to < n)
      × ((at : ℕ) → from ≤ at → at ≤ to → Unmarked at)

  one_drop : (acts : List Act) (low j : ℕ) (a : Act) → AreDrops low acts
      → slice_get acts j ≡ Some a → OneDrop low a
  one_drop [] low j a are e = absurd cc
  one_drop (act.Drop from to ∷ acts) low zero a are e =
      let same : act.Drop from to ≡ a = cc in
      (from, to, sym same, are.0, are.1, are.2, are.3)
  one_drop (act.Drop from to ∷ acts) low (suc j) a are e =
      let x = one_drop acts (to + 1) j a are.4 e in
      (x.0, x.1, x.2, omega (arith, x.3, are.0, are.1), x.4, x.5, x.6)
  one_drop (act.Fact from to slot value ∷ acts) low j a are e = absurd are
  one_drop (act.Fold at to ∷ acts) low j a are e = absurd are
  one_drop (act.Cut at ∷ acts) low j a are e = absurd are
  one_drop (act.Aim at which to ∷ acts) low j a are e = absurd are
  one_drop (act.Skip at ∷ acts) low j a are e = absurd are

  apart : (acts : List Act) (low i j : ℕ) (a b : Act) → AreDrops low acts → i < j
      → slice_get acts i ≡ Some b → slice_get acts j ≡ Some a → share_place b a ≡ false
  apart [] low i j a b are lt p q = absurd cc
  apart (act.Drop start end ∷ acts) low zero zero a b are lt p q = absurd (omega (arith, lt))
  apart (act.Drop start end ∷ acts) low zero (suc j) a b are lt p q =
      let x = one_drop acts (end + 1) j a are.4 q in
      let same : act.Drop start end ≡ b = cc in
      (λ i. share_place (sym same i) (x.2 i))
      ∙ and_none (nat_le start x.1) (nat_le x.0 end) (above x.0 end (omega (arith, x.3)))
  apart (act.Drop start end ∷ acts) low (suc i) zero a b are lt p q = absurd (omega (arith, lt))
  apart (act.Drop start end ∷ acts) low (suc i) (suc j) a b are lt p q =
      apart acts (end + 1) i j a b are.4 (omega (arith, lt)) p q
  apart (act.Fact from to slot value ∷ acts) low i j a b are lt p q = absurd are
  apart (act.Fold at to ∷ acts) low i j a b are lt p q = absurd are
  apart (act.Cut at ∷ acts) low i j a b are lt p q = absurd are
  apart (act.Aim at which to ∷ acts) low i j a b are lt p q = absurd are
  apart (act.Skip at ∷ acts) low i j a b are lt p q = absurd are

-- ---- legal

module _ (code : Code) (sound : IsSound code) (marks : List Bool)
    (tells : TellsReached code marks) where
  abbrev acts : List Act
  acts = runs 0 None marks

  long : 0 + length marks ≡ length code.ins
  long = let l = tells.long in omega (arith, l)

  whole : AreRest code marks 0 marks
  whole j = let e : j ≡ 0 + j = omega arith in ap (λ m. slice_index_or marks m false) e

  are : AreDrops code marks 0 acts
  are = runs_drop code marks marks 0 0 None long whole (omega arith)

  left_marked : (at : ℕ) → at < length code.ins → is_left acts at ≡ true
      → slice_index_or marks at false ≡ true
  left_marked at lt l = by (slice_index_or marks at false) refl
    where
      by : (b : Bool) → slice_index_or marks at false ≡ b → b ≡ true
      by true e = refl
      by false e =
          let gone = all_dropped code marks marks 0 None long whole at (omega arith) lt e in
          let no : true ≡ false = sym l ∙ ap not gone in absurd cc

  needed_reached : (at : ℕ) → IsNeeded acts code at → IsReached code at
  needed_reached at (needed.first e) = reached.first e
  needed_reached at (needed.led_to from k i l e s) =
      reached.led_to from k i
      (tells.only from (left_marked from (get_below code.ins from i e) l)) e s
  needed_reached at (needed.entered k from h e lt l c x) =
      reached.entered from k h (tells.only from (left_marked from lt l)) lt e c x

  aimed_needed : (at : ℕ) → IsStillAimedAt pass.Reach acts code at → IsNeeded acts code at
  aimed_needed at (branch from which i l e t) =
      let next = next_of (length code.ins) from i.op in
      needed.led_to from (length next + which) i l e (got_right next (targets i.op) which ∙ t)
  aimed_needed at (entry k from h e lt l c x) = needed.entered k from h e lt l c x

  pub reach_legal : AreLegal pass.Reach acts code
  reach_legal k a e =
      let x = one_drop code marks acts 0 k a are e in
      subst (IsLegalAt pass.Reach acts code k) (sym x.2) (drop_legal x.0 x.1 x.4 x.5 x.6
      (λ j b lt q. ap (share_place b) (sym x.2) ∙ apart code marks acts 0 j k a b are lt q e))
    where
      drop_legal : (from to : ℕ) → from ≤ to → to < length code.ins
          → ((at : ℕ) → from ≤ at → at ≤ to → slice_index_or marks at false ≡ false)
          → ((j : ℕ) (b : Act) → j < k → slice_get acts j ≡ Some b
          → share_place b (act.Drop from to) ≡ false)
          → IsLegalAt pass.Reach acts code k (act.Drop from to)
      drop_legal from to le lt none alone = (
        (le, lt, free),
        alone,
        λ at d l aimed past.
            let z = both _ _ d in
            free at (is_le from at z.0) (is_le at to z.1) (aimed_needed at aimed),
      )
        where
          free : (at : ℕ) → from ≤ at → at ≤ to → IsNeeded acts code at → ⊥
          free at p q need =
              let marked = tells.all at (omega (arith, q, lt)) (needed_reached at need) in
              let no : true ≡ false = sym marked ∙ none at p q in absurd cc
