-- The texts of steps, methods and witnesses.
use Rattle.std.proofs.Common.{◌≡◌, ℕ, zero, suc, ◌+◌, ◌<◌, List, [], ◌∷◌, ◌++◌, length, map, take, get_or, refl, sym}
use Rattle.std.proofs.Common.{ap, ◌∙◌, codes, eqb, true, false, Result, Ok, Err, append_assoc, arith}
use Rattle.std.specs.Prelude.{OnOk}
use Rattle.std.specs.Fmt.{decimal}
use Rattle.std.specs.List.{flat_map}
use Rattle.std.proofs.lemmas.List.{append-nil, length-take}
use Rattle.std.proofs.lemmas.List.Concat.{flat_map-append}
use Rattle.code_edit.specs.declared.act.Act.{Act}
use Rattle.code_edit.specs.declared.act.PassEdits.{PassEdits}
use Rattle.witness_file.specs.WitnessLines.{act_text, line_text, method_line_text}
use Rattle.witness_file.specs.Witnesses.{ended_line, method_lines, step_lines, steps_lines, witness_text}
use Rattle.witness_file.specs.declared.line.WitnessLine.TheVariants as line
use Rattle.witness_file.specs.declared.witness.MethodWitness.{MethodWitness}
use Rattle.witness_file.specs.declared.witness.Witness.{Witness}
use Rattle.witness_file.proofs.StepLines.{steps_append}

acts_text : (acts : List Act)
    → flat_map ended_line (map (λ a. line.Act a) acts) ≡ flat_map (λ a. act_text a ++ 10 ∷ []) acts
unfolding line_text
acts_text [] = refl
acts_text (a ∷ acts) = ap (λ (t : List ℕ). (act_text a ++ 10 ∷ []) ++ t) (acts_text acts)

-- a step with acts
pub step_text : (number : ℕ) (acts : List Act) → eqb (length acts) 0 ≡ false
    → flat_map ended_line (step_lines number acts)
    ≡ (codes "step " ++ (decimal number ++ 10 ∷ [])) ++ flat_map (λ a. act_text a ++ 10 ∷ []) acts
unfolding line_text
step_text number [] h = absurd cc
step_text number (a ∷ acts) h =
    ap (λ (t : List ℕ). (codes "step " ++ (decimal number ++ 10 ∷ [])) ++ t) (acts_text (a ∷ acts))

-- a method
pub method_texts : (m : MethodWitness) → flat_map ended_line (method_lines m)
    ≡ (method_line_text m.class m.name m.ty ++ 10 ∷ []) ++ flat_map ended_line (steps_lines 1 m.edits.steps)
unfolding line_text
method_texts m = refl

-- a witness
pub whole_text : (w : Witness)
    → witness_text w ≡ codes "witness 1\n" ++ flat_map (λ m. flat_map ended_line (method_lines m)) w.methods
unfolding witness_text line_text
whole_text w = ap (λ (t : List ℕ). codes "witness 1\n" ++ t) (by w.methods)
  where
    by : (ms : List MethodWitness)
        → flat_map ended_line (flat_map method_lines ms) ≡ flat_map (λ m. flat_map ended_line (method_lines m)) ms
    by [] = refl
    by (m ∷ ms) = flat_map-append ended_line (method_lines m) (flat_map method_lines ms)
        ∙ ap (λ (t : List ℕ). flat_map ended_line (method_lines m) ++ t) (by ms)

-- one more step
pub steps_more : (steps : List PassEdits) (s : PassEdits) (n : ℕ) (before out : List ℕ) → n ≡ 1 + length steps
    → out ≡ before ++ flat_map ended_line (steps_lines 1 steps)
    → out ++ flat_map ended_line (step_lines n s.acts) ≡ before ++ flat_map ended_line (steps_lines 1 (steps ++ s ∷ []))
steps_more steps s n before out e h =
    ap (λ (t : List ℕ). t ++ flat_map ended_line (step_lines n s.acts)) h
    ∙ append_assoc before (flat_map ended_line (steps_lines 1 steps)) (flat_map ended_line (step_lines n s.acts))
    ∙ ap (λ (t : List ℕ). before ++ t) (sym (ap (flat_map ended_line) (steps_append 1 steps (s ∷ []))
    ∙ flat_map-append ended_line (steps_lines 1 steps) (steps_lines (1 + length steps) (s ∷ []))
    ∙ ap (λ (t : List ℕ). flat_map ended_line (steps_lines 1 steps) ++ t)
    (flat_map-append ended_line (step_lines (1 + length steps) s.acts) [] ∙ last)))
  where
    last : flat_map ended_line (step_lines (1 + length steps) s.acts) ++ [] ≡ flat_map ended_line (step_lines n s.acts)
    last = append-nil (flat_map ended_line (step_lines (1 + length steps) s.acts))
        ∙ ap (λ (i : ℕ). flat_map ended_line (step_lines i s.acts)) (sym e)

-- ---- what was pushed, one behind the other

pub step_pushed : {T E : Type 0} (r : Result T E) (n : ℕ) (acts : List Act) (before head out : List ℕ)
    → eqb (length acts) 0 ≡ false
    → head ≡ before ++ (codes "step " ++ (decimal n ++ 10 ∷ []))
    → OnOk r (out ≡ head ++ flat_map (λ a. act_text a ++ 10 ∷ []) acts)
    → OnOk r (out ≡ before ++ flat_map ended_line (step_lines n acts))
step_pushed (Ok x) n acts before head out h k m =
    let l : List ℕ = codes "step " ++ (decimal n ++ 10 ∷ []) in
    let t : List ℕ = flat_map (λ a. act_text a ++ 10 ∷ []) acts in
    m ∙ ap (λ (y : List ℕ). y ++ t) k ∙ append_assoc before l t
    ∙ ap (λ (y : List ℕ). before ++ y) (sym (step_text n acts h))
step_pushed (Err e) n acts before head out h k m = tt

take_item : {A : Type 0} (xs : List A) (i : ℕ) (x : A) → i < length xs → x ≡ get_or xs i x
    → take (suc i) xs ≡ take i xs ++ x ∷ []
take_item [] i x h e = absurd (omega arith)
take_item {A} (y ∷ ys) zero x h e = ap (λ (z : A). z ∷ []) (sym e)
take_item {A} (y ∷ ys) (suc i) x h e = ap (λ (l : List A). y ∷ l) (take_item ys i x (omega arith) e)

pub next_step : (all : List PassEdits) (i n : ℕ) (s : PassEdits) (acts : List Act) (before out new : List ℕ)
    → i < length all
    → s ≡ get_or all i s → n ≡ 1 + i → acts ≡ s.acts
    → out ≡ before ++ flat_map ended_line (steps_lines 1 (take i all))
    → new ≡ out ++ flat_map ended_line (step_lines n acts)
    → new ≡ before ++ flat_map ended_line (steps_lines 1 (take (i + 1) all))
next_step all i n s acts before out new h is e same k pushed =
    let long : n ≡ 1 + length (take i all) = omega (arith, e, h, length-take i all) in
    let next : take i all ++ s ∷ [] ≡ take (i + 1) all
    = sym (take_item all i s h is) ∙ (let up : suc i ≡ i + 1 = omega arith in ap (λ (j : ℕ). take j all) up) in
    pushed ∙ ap (λ (a : List Act). out ++ flat_map ended_line (step_lines n a)) same
    ∙ steps_more (take i all) s n before out long k
    ∙ ap (λ (l : List PassEdits). before ++ flat_map ended_line (steps_lines 1 l)) next

pub method_pushed : {T E : Type 0} (r : Result T E) (m : MethodWitness) (steps : List PassEdits)
    (before head out : List ℕ) → steps ≡ m.edits.steps
    → head ≡ before ++ (method_line_text m.class m.name m.ty ++ 10 ∷ [])
    → OnOk r (out ≡ head ++ flat_map ended_line (steps_lines 1 steps))
    → OnOk r (out ≡ before ++ flat_map ended_line (method_lines m))
method_pushed (Ok x) m steps before head out same k p =
    let l : List ℕ = method_line_text m.class m.name m.ty ++ 10 ∷ [] in
    let t : List ℕ = flat_map ended_line (steps_lines 1 m.edits.steps) in
    p ∙ ap (λ (y : List PassEdits). head ++ flat_map ended_line (steps_lines 1 y)) same ∙ ap (λ (y : List ℕ). y ++ t) k
    ∙ append_assoc before l t ∙ ap (λ (y : List ℕ). before ++ y) (sym (method_texts m))
method_pushed (Err e) m steps before head out same k p = tt

pub witness_pushed : {T E : Type 0} (r : Result T E) (w : Witness) (ms : List MethodWitness)
    (before head out : List ℕ) → ms ≡ w.methods
    → head ≡ before ++ codes "witness 1\n"
    → OnOk r (out ≡ head ++ flat_map (λ m. flat_map ended_line (method_lines m)) ms)
    → OnOk r (out ≡ before ++ witness_text w)
witness_pushed (Ok x) w ms before head out same k p =
    let t : List ℕ = flat_map (λ m. flat_map ended_line (method_lines m)) w.methods in
    p ∙ ap (λ (y : List MethodWitness). head ++ flat_map (λ m. flat_map ended_line (method_lines m)) y) same
    ∙ ap (λ (y : List ℕ). y ++ t) k
    ∙ append_assoc before (codes "witness 1\n") t ∙ ap (λ (y : List ℕ). before ++ y) (sym (whole_text w))
witness_pushed (Err e) w ms before head out same k p = tt
