-- The steps of a method and their lines.
use Rattle.std.proofs.Common.{◌≡◌, ◌≢◌, ℕ, zero, suc, ◌+◌, ◌-◌, ◌<◌, ◌≤◌, Bool, true, false, cond, eqb, List, [], ◌∷◌}
use Rattle.std.proofs.Common.{◌++◌, map, length, take, drop, Option, Some, None, refl, sym, ap, subst, ◌∙◌}
use Rattle.std.proofs.Common.{append_assoc, arith, inl, inr}
use Rattle.std.specs.Prelude.{slice_get}
use Rattle.std.specs.List.{AllByRecursion, flat_map}
use Rattle.std.specs.Option.{option_map, option_to_list}
use Rattle.std.proofs.lemmas.Bool.{cases_lt}
use Rattle.std.proofs.lemmas.List.{append-nil, drop_all, length-append, length-take, length-drop, length-map}
use Rattle.std.proofs.lemmas.List.{map-append}
use Rattle.jv_base.proofs.Lists.{all_append}
use Rattle.code_edit.specs.Acts.{is_pass, pass_of, step_passes}
use Rattle.code_edit.specs.declared.act.Act.{Act}
use Rattle.code_edit.specs.declared.act.Pass.{Pass}
use Rattle.code_edit.specs.declared.act.Pass.TheVariants.{Reach, Const, Slots, Jumps}
use Rattle.code_edit.specs.declared.act.PassEdits.{PassEdits}
use Rattle.witness_file.specs.WitnessReading.{empty_step, padded}
use Rattle.witness_file.specs.Witnesses.{ActOr, HasAct, HasActsOfPass, step_lines, steps_lines}
use Rattle.witness_file.specs.declared.line.WitnessLine.{WitnessLine}
use Rattle.witness_file.specs.declared.line.WitnessLine.TheVariants as line

-- ---- lists

pub drop_within : {A : Type 0} (n : ℕ) (xs ys : List A) → n ≤ length xs → drop n (xs ++ ys) ≡ drop n xs ++ ys
drop_within zero xs ys h = refl
drop_within (suc n) [] ys h = absurd (omega arith)
drop_within (suc n) (x ∷ xs) ys h = drop_within n xs ys (omega arith)

pub drop_whole : {A : Type 0} (xs : List A) → drop (length xs) xs ≡ []
drop_whole [] = refl
drop_whole (x ∷ xs) = drop_whole xs

pub take_front : {A : Type 0} (xs ys : List A) → take (length xs) (xs ++ ys) ≡ xs
take_front [] ys = refl
take_front {A} (x ∷ xs) ys = ap (λ (l : List A). x ∷ l) (take_front xs ys)

pub got_at : {A : Type 0} (xs : List A) (y : A) (ys : List A) → slice_get (xs ++ y ∷ ys) (length xs) ≡ Some y
got_at [] y ys = refl
got_at (x ∷ xs) y ys = got_at xs y ys

-- ---- passes

-- the pass of a step, and the passes up to it
pub passes_at : (n : ℕ) → n < 6
    → (p : Pass) × (slice_get step_passes n ≡ Some p) × (take (n + 1) step_passes ≡ take n step_passes ++ p ∷ [])
passes_at zero h = (Reach, refl, refl)
passes_at (suc zero) h = (Const, refl, refl)
passes_at (suc (suc zero)) h = (Reach, refl, refl)
passes_at (suc (suc (suc zero))) h = (Slots, refl, refl)
passes_at (suc (suc (suc (suc zero)))) h = (Jumps, refl, refl)
passes_at (suc (suc (suc (suc (suc zero))))) h = (Reach, refl, refl)
passes_at (suc (suc (suc (suc (suc (suc n)))))) h = absurd (omega arith)

pub take_passes : (n : ℕ) (p : Pass) → n < 6 → slice_get step_passes n ≡ Some p
    → take (n + 1) step_passes ≡ take n step_passes ++ p ∷ []
take_passes n p h e =
    let at = passes_at n h in let is : at.0 ≡ p = cc in at.2 ∙ ap (λ (q : Pass). take n step_passes ++ q ∷ []) is

-- the pass of each step
abbrev pub passes_of : List PassEdits → List Pass
passes_of steps = map (λ s. s.pass) steps

pub passes_empty : (ps : List Pass) → passes_of (map empty_step ps) ≡ ps
passes_empty [] = refl
passes_empty (p ∷ ps) = ap (λ (l : List Pass). p ∷ l) (passes_empty ps)

pub same_pass : (p q : Pass) → is_pass p q ≡ true → p ≡ q
same_pass Reach Reach h = refl
same_pass Const Const h = refl
same_pass Slots Slots h = refl
same_pass Jumps Jumps h = refl
same_pass Reach Const h = absurd cc
same_pass Reach Slots h = absurd cc
same_pass Reach Jumps h = absurd cc
same_pass Const Reach h = absurd cc
same_pass Const Slots h = absurd cc
same_pass Const Jumps h = absurd cc
same_pass Slots Reach h = absurd cc
same_pass Slots Const h = absurd cc
same_pass Slots Jumps h = absurd cc
same_pass Jumps Reach h = absurd cc
same_pass Jumps Const h = absurd cc
same_pass Jumps Slots h = absurd cc

pub pass_same : (p : Pass) → is_pass p p ≡ true
pass_same Reach = refl
pass_same Const = refl
pass_same Slots = refl
pass_same Jumps = refl

-- ---- lines

pub steps_append : (k : ℕ) (xs ys : List PassEdits)
    → steps_lines k (xs ++ ys) ≡ steps_lines k xs ++ steps_lines (k + length xs) ys
steps_append k [] ys = ap (λ (n : ℕ). steps_lines n ys) (omega arith)
steps_append k (x ∷ xs) ys =
    let n : (k + 1) + length xs ≡ k + length (x ∷ xs) = omega arith in
    ap (λ (l : List WitnessLine). step_lines k x.acts ++ l) (steps_append (k + 1) xs ys
    ∙ ap (λ (i : ℕ). steps_lines (k + 1) xs ++ steps_lines i ys) n)
    ∙ sym (append_assoc (step_lines k x.acts) (steps_lines (k + 1) xs) (steps_lines (k + length (x ∷ xs)) ys))

pub empty_lines : (k : ℕ) (ps : List Pass) → steps_lines k (map empty_step ps) ≡ []
empty_lines k [] = refl
empty_lines k (p ∷ ps) = empty_lines (k + 1) ps

-- steps without acts have no lines
pub padded_lines : (k n : ℕ) (steps : List PassEdits) → steps_lines k (padded n steps) ≡ steps_lines k steps
padded_lines k n steps = steps_append k steps (map empty_step (drop (length steps) (take n step_passes)))
    ∙ ap (λ (l : List WitnessLine). steps_lines k steps ++ l)
    (empty_lines (k + length steps) (drop (length steps) (take n step_passes)))
    ∙ append-nil (steps_lines k steps)

-- ---- steps that are padded

pub padded_length : (n : ℕ) (steps : List PassEdits) → length steps ≤ n → n ≤ 6 → length (padded n steps) ≡ n
padded_length n steps h k =
    let six : length step_passes ≡ 6 = refl in
    omega (
      arith,
      length-append steps (map empty_step (drop (length steps) (take n step_passes))),
      length-map (drop (length steps) (take n step_passes)) empty_step,
      length-drop (length steps) (take n step_passes),
      length-take n step_passes,
      six,
    )

-- the steps have the passes of the first steps
abbrev pub ArePlaced : List PassEdits → Type 0
ArePlaced steps = passes_of steps ≡ take (length steps) step_passes

take_take : {A : Type 0} (m n : ℕ) (xs : List A) → m ≤ n → take m (take n xs) ≡ take m xs
take_take zero n xs h = refl
take_take (suc m) zero xs h = absurd (omega arith)
take_take (suc m) (suc n) [] h = refl
take_take {A} (suc m) (suc n) (x ∷ xs) h = ap (λ (l : List A). x ∷ l) (take_take m n xs (omega arith))

take_drop : {A : Type 0} (n : ℕ) (xs : List A) → take n xs ++ drop n xs ≡ xs
take_drop zero xs = refl
take_drop (suc n) [] = refl
take_drop {A} (suc n) (x ∷ xs) = ap (λ (l : List A). x ∷ l) (take_drop n xs)

pub padded_passes : (n : ℕ) (steps : List PassEdits) → length steps ≤ n → ArePlaced steps
    → passes_of (padded n steps) ≡ take n step_passes
padded_passes n steps h placed =
    map-append (λ s. s.pass) steps (map empty_step (drop (length steps) (take n step_passes)))
    ∙ ap (λ (l : List Pass). passes_of steps ++ l) (passes_empty (drop (length steps) (take n step_passes)))
    ∙ ap (λ (l : List Pass). l ++ drop (length steps) (take n step_passes))
    (placed ∙ sym (take_take (length steps) n step_passes h))
    ∙ take_drop (length steps) (take n step_passes)

pub padded_acts : (n : ℕ) (steps : List PassEdits) → AllByRecursion HasActsOfPass steps
    → AllByRecursion HasActsOfPass (padded n steps)
padded_acts n steps h = all_append HasActsOfPass steps _ h (by (drop (length steps) (take n step_passes)))
  where
    by : (ps : List Pass) → AllByRecursion HasActsOfPass (map empty_step ps)
    by [] = tt
    by (p ∷ ps) = (tt, by ps)

-- an act that a step has, a longer list has
pub act_stays : (xs ys : List PassEdits) → HasAct xs → HasAct (xs ++ ys)
act_stays [] ys h = absurd h
act_stays (x ∷ xs) ys h = by x.acts h (λ k. act_stays xs ys k)
  where
    by : (acts : List Act) → ActOr acts (HasAct xs) → (HasAct xs → HasAct (xs ++ ys))
        → ActOr acts (HasAct (xs ++ ys))
    by [] k more = more k
    by (a ∷ acts) k more = tt

pub act_last : (xs : List PassEdits) (s : PassEdits) → eqb (length s.acts) 0 ≡ false → HasAct (xs ++ s ∷ [])
act_last [] s h = by s.acts h
  where
    by : (acts : List Act) → eqb (length acts) 0 ≡ false → ActOr acts ⊥
    by [] k = absurd cc
    by (a ∷ acts) k = tt
act_last (x ∷ xs) s h = by x.acts (act_last xs s h)
  where
    by : (acts : List Act) → HasAct (xs ++ s ∷ []) → ActOr acts (HasAct (xs ++ s ∷ []))
    by [] k = k
    by (a ∷ acts) k = tt

-- the step with acts, by its lines
pub open_step : (k : ℕ) (acts : List Act) → eqb (length acts) 0 ≡ false
    → step_lines k acts ≡ line.Step k ∷ map (λ a. line.Act a) acts
open_step k [] h = absurd cc
open_step k (a ∷ acts) h = refl

-- ---- padding step by step

drop_got : {A : Type 0} (n : ℕ) (xs : List A) (y : A) → slice_get xs n ≡ Some y → drop n xs ≡ y ∷ drop (suc n) xs
drop_got zero [] y h = absurd cc
drop_got {A} zero (x ∷ xs) y h = let is : x ≡ y = cc in ap (λ (z : A). z ∷ xs) is
drop_got (suc n) [] y h = absurd cc
drop_got (suc n) (x ∷ xs) y h = drop_got n xs y h

take_got : {A : Type 0} (n m : ℕ) (xs : List A) (y : A) → n < m → slice_get xs n ≡ Some y
    → slice_get (take m xs) n ≡ Some y
take_got n zero xs y h e = absurd (omega arith)
take_got n (suc m) [] y h e = e
take_got zero (suc m) (x ∷ xs) y h e = e
take_got (suc n) (suc m) (x ∷ xs) y h e = take_got n m xs y (omega arith) e

-- the next step without acts
pub pad_one : (count : ℕ) (steps : List PassEdits) (p : Pass) → length steps < count
    → slice_get step_passes (length steps) ≡ Some p
    → padded count (steps ++ empty_step p ∷ []) ≡ padded count steps
pad_one count steps p h e =
    let long : length (steps ++ empty_step p ∷ []) ≡ suc (length steps) =
    omega (arith, length-append steps (empty_step p ∷ [])) in
    append_assoc steps (empty_step p ∷ [])
    (map empty_step (drop (length (steps ++ empty_step p ∷ [])) (take count step_passes)))
    ∙ ap (λ (i : ℕ). steps ++ empty_step p ∷ map empty_step (drop i (take count step_passes))) long
    ∙ ap (λ (l : List Pass). steps ++ map empty_step l)
    (sym (drop_got (length steps) (take count step_passes) p (take_got (length steps) count step_passes p h e)))

-- there are enough
pub pad_none : (count : ℕ) (steps : List PassEdits) → count ≤ length steps → padded count steps ≡ steps
pad_none count steps h =
    let none : drop (length steps) (take count step_passes) ≡ [] =
    drop_all (length steps) (take count step_passes) (omega (arith, length-take count step_passes, h)) in
    ap (λ (l : List Pass). steps ++ map empty_step l) none ∙ append-nil steps

-- there are no more passes
pub pad_all : (count : ℕ) (steps : List PassEdits) → slice_get step_passes (length steps) ≡ None
    → padded count steps ≡ steps
pad_all count steps h =
    let six : length step_passes ≡ 6 = refl in
    elim (cases_lt (length steps) 6) [
      | inl few ↦ (let at = passes_at (length steps) few in absurd (let e : None ≡ Some at.0 = sym h ∙ at.1 in cc))
      | inr all ↦ (let none : drop (length steps) (take count step_passes) ≡ []
          = drop_all (length steps) (take count step_passes) (omega (arith, length-take count step_passes, six, all)) in
          ap (λ (l : List Pass). steps ++ map empty_step l) none ∙ append-nil steps)
    ]

-- a step that was pushed
pub pad_pushed : (count : ℕ) (steps new : List PassEdits) (o : Option PassEdits) (s : PassEdits) (n : ℕ)
    → n ≡ length steps → length steps < count
    → o ≡ option_map empty_step (slice_get step_passes n) → o ≡ Some s → new ≡ steps ++ s ∷ []
    → padded count new ≡ padded count steps
pad_pushed count steps new o s n e h is got pushed =
    by (slice_get step_passes (length steps)) refl
    (sym (ap (λ (i : ℕ). option_map empty_step (slice_get step_passes i)) e) ∙ sym is ∙ got)
  where
    by : (found : Option Pass) → slice_get step_passes (length steps) ≡ found → option_map empty_step found ≡ Some s
        → padded count new ≡ padded count steps
    by None k j = absurd cc
    by (Some p) k j =
        let same : empty_step p ≡ s = cc in
        ap (padded count) (pushed ∙ ap (λ (x : PassEdits). steps ++ x ∷ []) (sym same)) ∙ pad_one count steps p h k
