-- Methods with a code are at the spots, and what becomes of them one after another.
use Rattle.std.proofs.Common.{◌≡◌, ◌≤◌, ◌<◌, ℕ, zero, suc, ◌+◌, ◌&&◌, Bool, true, false, cond, List, [], ◌∷◌, ◌++◌, refl, sym, ap}
use Rattle.std.proofs.Common.{subst, ◌∙◌, arith, append_assoc, Option, Some, None, slice_get, length}
use Rattle.std.specs.Prelude.{is_some, slice_index_or, slice_set, take, drop, IfOk, IfSome, Result, Ok, Err}
use Rattle.std.specs.List.{AllByRecursion}
use Rattle.std.proofs.lemmas.List.{append-nil}
use Rattle.std.proofs.lemmas.List.Sums.{sum_by-cons}
use Rattle.std.proofs.lemmas.Option.{same_Some}
use Rattle.jv_base.proofs.Lists.{all_append, all_at}
use Rattle.class_model.specs.Flags.{is_interface}
use Rattle.class_model.specs.WellFormed.{IsGoodCode, IsGoodMethod, IsWellFormed}
use Rattle.class_model.specs.declared.class.Class.{Class}
use Rattle.class_model.specs.declared.class.Method.{Method}
use Rattle.class_model.specs.declared.code.Code.{Code}
use Rattle.class_pool.specs.Count.{item_count, items_of}
use Rattle.flow_laws.specs.Laws.{TypedCodesAreSound}
use Rattle.member_shrink.specs.Shrunk.{is_marked}
use Rattle.pass_driver.specs.Optimised.{AreDone, IsAt, class_spots, code_for, entry_for, fallback_for, method_spots, spots}
use Rattle.pass_driver.specs.Outcomes.{IsOutcome}
use Rattle.pass_driver.specs.bodies.After.{IsRight}
use Rattle.pass_driver.specs.bodies.Spotted.{IsSpot, IsSpotDone}
use Rattle.pass_driver.specs.declared.judging.Outcome.{Outcome}
use Rattle.pass_driver.specs.declared.judging.Outcome.TheVariants.{Own, Edited, Fallback}
use Rattle.pass_driver.specs.declared.optimising.NewCode.{NewCode}
use Rattle.pass_driver.specs.declared.optimising.Optimised.{Optimised}
use Rattle.pass_driver.specs.declared.spots.Spot.{Spot}
use Rattle.type_verifier.specs.Verified.{AreTyped}
use Rattle.type_verifier.specs.WithCode.{changed_at}
use Rattle.witness_file.specs.declared.witness.MethodWitness.{MethodWitness}

-- ---- spots

module _ (marks : List Bool) (classes : List Class) where
  methods_spotted : (own : ℕ) (c : Class) → slice_get classes own ≡ Some c → (item number : ℕ) (ms : List Method)
      → ((k : ℕ) (m : Method) → slice_get ms k ≡ Some m → slice_get c.methods (number + k) ≡ Some m)
      → AllByRecursion (IsSpot classes) (method_spots marks own item number ms)
  methods_spotted own c at item number [] same = tt
  methods_spotted own c at item number (m ∷ ms) same =
      all_append (IsSpot classes) (cond (is_marked marks item && is_some m.code) (record { class = own; method = number } ∷ []) [])
      (method_spots marks own (suc item) (suc number) ms)
      (by (is_marked marks item) m.code refl)
      (methods_spotted own c at (suc item) (suc number) ms
      (λ k n e. let next : number + suc k ≡ suc number + k = omega arith in
      subst (λ (j : ℕ). slice_get c.methods j ≡ Some n) next (same (suc k) n e)))
    where
      here : slice_get c.methods number ≡ Some m
      here = let start : number + 0 ≡ number = omega arith in
          subst (λ (j : ℕ). slice_get c.methods j ≡ Some m) start (same 0 m refl)

      by : (b : Bool) (o : Option Code) → m.code ≡ o
          → AllByRecursion (IsSpot classes)
          (cond (b && is_some m.code) (record { class = own; method = number } ∷ []) [])
      by true (Some code) e =
          subst (λ (p : Option Code). AllByRecursion (IsSpot classes)
          (cond (is_some p) (record { class = own; method = number } ∷ []) [])) (sym e)
          (record { of = c; method = m; code = code; at = record { in_set = at; in_class = here; has = e } }, tt)
      by true None e =
          subst (λ (p : Option Code). AllByRecursion (IsSpot classes)
          (cond (is_some p) (record { class = own; method = number } ∷ []) [])) (sym e) tt
      by false o e = tt

  classes_spotted : (own item : ℕ) (cs : List Class)
      → ((k : ℕ) (c : Class) → slice_get cs k ≡ Some c → slice_get classes (own + k) ≡ Some c)
      → AllByRecursion (IsSpot classes) (class_spots marks own item cs)
  classes_spotted own item [] same = tt
  classes_spotted own item (c ∷ cs) same =
      all_append (IsSpot classes) (method_spots marks own (item + 1 + length c.fields) 0 c.methods)
      (class_spots marks (suc own) (item + items_of c) cs)
      (methods_spotted own c
      (let start : own + 0 ≡ own = omega arith in
      subst (λ (j : ℕ). slice_get classes j ≡ Some c) start (same 0 c refl))
      (item + 1 + length c.fields) 0 c.methods
      (λ k m e. let start : k ≡ 0 + k = omega arith in
      subst (λ (j : ℕ). slice_get c.methods j ≡ Some m) start e))
      (classes_spotted (suc own) (item + items_of c) cs
      (λ k d e. let next : own + suc k ≡ suc own + k = omega arith in
      subst (λ (j : ℕ). slice_get classes j ≡ Some d) next (same (suc k) d e)))

  -- a method with a code is at each spot
  pub all_spotted : AllByRecursion (IsSpot classes) (spots marks classes)
  all_spotted = classes_spotted 0 0 classes
      (λ k c e. let start : k ≡ 0 + k = omega arith in
      subst (λ (j : ℕ). slice_get classes j ≡ Some c) start e)

-- ---- one after another

pub few_for : (o : Outcome) → fallback_for o ≤ 1
few_for Own = omega arith
few_for (Edited code edits) = omega arith
few_for Fallback = omega arith

module _ (classes : List Class) (s : Spot) (c : Class) (m : Method) (code : Code) (at : IsAt classes s c m code)
    (outcome : Outcome) (is : IsOutcome classes s.class s.method code outcome) where
  done_more : (before : List Spot) (codes : List NewCode) (entries : List MethodWitness) (count : ℕ)
      → AreDone classes before codes entries count
      → AreDone classes (before ++ s ∷ []) (codes ++ code_for s outcome) (entries ++ entry_for c m outcome)
      (count + fallback_for outcome)
  done_more [] codes entries count h = (
    c,
    m,
    code,
    at,
    outcome,
    is,
    [],
    [],
    0,
    ap (λ (l : List NewCode). l ++ code_for s outcome) h.0 ∙ sym (append-nil (code_for s outcome)),
    ap (λ (l : List MethodWitness). l ++ entry_for c m outcome) h.1 ∙ sym (append-nil (entry_for c m outcome)),
    (let none = h.2 in omega (arith, none)),
    (refl, refl, refl),
  )
  done_more (x ∷ before) codes entries count h = (
    h.0,
    h.1,
    h.2,
    h.3,
    h.4,
    h.5,
    h.6 ++ code_for s outcome,
    h.7 ++ entry_for c m outcome,
    h.8 + fallback_for outcome,
    ap (λ (l : List NewCode). l ++ code_for s outcome) h.9
        ∙ append_assoc (code_for x h.4) h.6 (code_for s outcome),
    ap (λ (l : List MethodWitness). l ++ entry_for c m outcome) h.10
        ∙ append_assoc (entry_for h.0 h.1 h.4) h.7 (entry_for c m outcome),
    (let sum = h.11 in omega (arith, sum)),
    done_more before h.6 h.7 h.8 h.12,
  )

pub done_next : (classes : List Class) (s : Spot) (old new : Optimised) → IsSpotDone classes s old new
    → (before : List Spot) → AreDone classes before old.codes old.witness.methods old.fallback
    → AreDone classes (before ++ s ∷ []) new.codes new.witness.methods new.fallback
done_next classes s old new h before done =
    let more = done_more classes s h.spot.of h.spot.method h.spot.code h.spot.at h.outcome h.is before old.codes
    old.witness.methods old.fallback done in
    subst (λ (n : ℕ). AreDone classes (before ++ s ∷ []) new.codes new.witness.methods n) (sym h.fallback)
    (subst (λ (l : List MethodWitness). AreDone classes (before ++ s ∷ []) new.codes l
    (old.fallback + fallback_for h.outcome)) (sym h.entries)
    (subst (λ (l : List NewCode). AreDone classes (before ++ s ∷ []) l
    (old.witness.methods ++ entry_for h.spot.of h.spot.method h.outcome)
    (old.fallback + fallback_for h.outcome)) (sym h.codes) more))

-- ---- lists with one element changed

pub changed_out : {X : Type 0} (f : X → X) (n : ℕ) (xs : List X) → length xs ≤ n → changed_at n f xs ≡ xs
changed_out f n [] le = refl
changed_out f zero (x ∷ xs) le = absurd (omega (arith, le))
changed_out {X} f (suc n) (x ∷ xs) le = ap (λ (ys : List X). x ∷ ys) (changed_out f n xs (omega (arith, le)))

pub changed_set : {X : Type 0} (f : X → X) (n : ℕ) (xs : List X) (d y : X) → n < length xs
    → y ≡ f (slice_index_or xs n d) → changed_at n f xs ≡ slice_set xs n y
changed_set f n [] d y lt is = absurd (omega (arith, lt))
changed_set {X} f zero (x ∷ xs) d y lt is = ap (λ (z : X). z ∷ xs) (sym is)
changed_set {X} f (suc n) (x ∷ xs) d y lt is =
    ap (λ (ys : List X). x ∷ ys) (changed_set f n xs d y (omega (arith, lt)) is)

-- ---- codes of a set

-- a code of a typed set whose classes follow the format is right
pub code_right : TypedCodesAreSound → (classes : List Class)
    → ((n : ℕ) (c : Class) → slice_get classes n ≡ Some c → IsWellFormed c) → AreTyped classes
    → (n k : ℕ) (c : Class) (m : Method) (code : Code) → slice_get classes n ≡ Some c
    → slice_get c.methods k ≡ Some m → m.code ≡ Some code → IsRight code
code_right sounds classes formed typed n k c m code at in_methods has = record {
  good = subst (λ (o : Option Code). IfSome o IsGoodCode) has
      (all_at (IsGoodMethod (is_interface c.flags.0)) c.methods k m (formed n c at).methods in_methods).code;
  sound = sounds classes n c k m code (formed n c at) at in_methods has typed;
}

-- what three clauses say of a call that went well
pub all_three : {X Y : Type 0} (r : Result X Y) (P Q R S : X → Type 0) → ((x : X) → P x → Q x → R x → S x)
    → IfOk r P → IfOk r Q → IfOk r R → IfOk r S
all_three (Ok x) P Q R S f p q r = f x p q r
all_three (Err e) P Q R S f p q r = tt

-- ---- the walk over a set

pub drop_got : {X : Type 0} (xs : List X) (n : ℕ) (x : X) → slice_get xs n ≡ Some x
    → drop n xs ≡ x ∷ drop (n + 1) xs
drop_got [] n x at = absurd cc
drop_got {X} (y ∷ xs) zero x at = ap (λ (z : X). z ∷ xs) (same_Some y x at)
drop_got {X} (y ∷ xs) (suc n) x at =
    let next : suc (n + 1) ≡ suc n + 1 = omega arith in
    drop_got xs n x at ∙ ap (λ (k : ℕ). x ∷ drop k (y ∷ xs)) next

pub rest_items : (classes : List Class) (n : ℕ) (c : Class) → slice_get classes n ≡ Some c
    → item_count (drop n classes) ≡ items_of c + item_count (drop (n + 1) classes)
rest_items classes n c at =
    ap (λ (cs : List Class). item_count cs) (drop_got classes n c at)
    ∙ sum_by-cons items_of c (drop (n + 1) classes)

pub spots_more : (marks : List Bool) (classes : List Class) (own item : ℕ) (c : Class)
    → slice_get classes own ≡ Some c → (before more whole : List Spot) (first next : ℕ)
    → first ≡ item + 1 + length c.fields → next ≡ item + items_of c
    → more ≡ before ++ method_spots marks own first 0 c.methods
    → before ++ class_spots marks own item (drop own classes) ≡ whole
    → more ++ class_spots marks (own + 1) next (drop (own + 1) classes) ≡ whole
spots_more marks classes own item c at before more whole first next first_is next_is put so_far =
    let rest = class_spots marks (own + 1) next (drop (own + 1) classes) in
    let one : own + 1 ≡ suc own = omega arith in
    let last : before ++ (method_spots marks own (item + 1 + length c.fields) 0 c.methods
    ++ class_spots marks (suc own) (item + items_of c) (drop (own + 1) classes)) ≡ whole =
    subst (λ (cs : List Class). before ++ class_spots marks own item cs ≡ whole) (drop_got classes own c at) so_far in
    ap (λ (l : List Spot). l ++ rest) put
    ∙ append_assoc before (method_spots marks own first 0 c.methods) rest
    ∙ (λ i. before ++ (method_spots marks own (first_is i) 0 c.methods
    ++ class_spots marks (one i) (next_is i) (drop (own + 1) classes)))
    ∙ last

pub has_at : {X : Type 0} (P : X → Type 0) (xs : List X) (k : ℕ) (d : X) → AllByRecursion P xs → k < length xs
    → P (slice_index_or xs k d)
has_at P [] k d h lt = absurd (omega (arith, lt))
has_at P (x ∷ xs) zero d h lt = h.0
has_at P (x ∷ xs) (suc k) d h lt = has_at P xs k d h.1 (omega (arith, lt))

pub taken_more : {X : Type 0} (xs : List X) (k : ℕ) (d : X) → k < length xs
    → take k xs ++ slice_index_or xs k d ∷ [] ≡ take (k + 1) xs
taken_more [] k d lt = absurd (omega (arith, lt))
taken_more (x ∷ xs) zero d lt = refl
taken_more {X} (x ∷ xs) (suc k) d lt =
    let next : suc (k + 1) ≡ suc k + 1 = omega arith in
    ap (λ (ys : List X). x ∷ ys) (taken_more xs k d (omega (arith, lt)))
    ∙ ap (λ (n : ℕ). take n (x ∷ xs)) next
