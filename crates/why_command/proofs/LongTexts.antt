-- Texts that may be too long, and those of derivations.
use Rattle.std.proofs.Common.{◌≡◌, ◌≤◌, ◌<◌, ℕ, ◌+◌, Bool, cond, List, [], ◌∷◌, ◌++◌, length, take, get_or, Result, Ok}
use Rattle.std.proofs.Common.{Err, refl, ap, sym, subst, ◌∙◌, arith, append_assoc, length-append}
use Rattle.std.specs.Prelude.{codes}
use Rattle.std.specs.Fmt.{decimal}
use Rattle.std.specs.List.{flat_map}
use Rattle.std.proofs.lemmas.Bool.{le-leb, lt-leb}
use Rattle.std.proofs.lemmas.Fmt.{length-decimal-le}
use Rattle.std.proofs.lemmas.List.{get_or_default}
use Rattle.jv_base.proofs.Lists.{flat_more}
use Rattle.why_kept.specs.declared.reasons.WhyStep.{WhyStep}
use Rattle.command_frame.specs.Refusal.{absent_by, passed}
use Rattle.command_frame.specs.Steps.{Makes}
use Rattle.command_frame.specs.declared.refusal.Quantity.TheVariants as quantity
use Rattle.command_frame.specs.declared.refusal.Refusal.{Refusal}
use Rattle.command_frame.specs.declared.stop.Stop.{Stop}
use Rattle.command_frame.specs.declared.stop.Stop.TheVariants.{Refused, Device, OutOfMemory}
use Rattle.why_command.specs.Telling.{IsDerivationTold, IsTold, depth_line, derivation_text, or_long, step_line, why_text}
use Rattle.why_command.specs.bodies.Limits.{IsWithin}

abbrev text_if : List ℕ → Bool → Result (List ℕ) Refusal
text_if text short = cond short (Ok text) (Err (passed quantity.Text))

too_long : (text : List ℕ) → 67108864 < length text → or_long text ≡ Err (passed quantity.Text)
too_long text long = ap (text_if text) (lt-leb (length text) 67108864 long)

pub short_enough : (text : List ℕ) → length text ≤ 67108864 → or_long text ≡ Ok text
short_enough text short = ap (text_if text) (le-leb (length text) 67108864 short)

-- a step that stopped at a text
abbrev at_text : Stop → Result (List ℕ) Stop
at_text stop = Err stop

-- where a front of a text is too long, the text is
pub stops : (stop : Stop) (front text : List ℕ) → length front ≤ length text → IsWithin (Err stop) front
    → Makes (at_text stop) (λ due. due ≡ or_long text)
stops (Refused refusal) front text shorter h =
    let long = h.1 in
    (ap absent_by h.0, ap Err h.0 ∙ sym (too_long text (omega (arith, long, shorter))))
stops Device front text shorter h = absurd h
stops OutOfMemory front text shorter h = tt

-- ---- derivations

pub depth_short : (depth : ℕ) → depth < 4294967296 → length (depth_line depth) ≤ 67108864
depth_short depth low =
    let digits = length-decimal-le 10 depth (omega arith) (omega (arith, low)) (omega (arith, low)) in
    let back = length-append (decimal depth) (codes "\n") in
    let whole = length-append (codes "depth ") (decimal depth ++ codes "\n") in
    omega (arith, digits, back, whole)

-- the line of one more step
pub lines_more : (texts : List (List ℕ)) (steps : List WhyStep) (i : ℕ) (d : WhyStep) (front old new : List ℕ)
    → i < length steps → old ≡ front ++ flat_map (step_line texts) (take i steps)
    → new ≡ old ++ step_line texts (get_or steps i d) → new ≡ front ++ flat_map (step_line texts) (take (i + 1) steps)
lines_more texts steps i d front old new lt is grown =
    let x : WhyStep = get_or steps i d in
    grown ∙ ap (λ (t : List ℕ). t ++ step_line texts x) is
    ∙ append_assoc front (flat_map (step_line texts) (take i steps)) (step_line texts x)
    ∙ ap (λ (t : List ℕ). front ++ t) (flat_more (step_line texts) steps i x lt (get_or_default steps i d x lt))

-- where there are steps, the text is that of a derivation
pub text_of_some : (texts : List (List ℕ)) (depth : ℕ) (steps : List WhyStep) → 0 < length steps
    → derivation_text texts depth steps ≡ why_text texts depth steps
text_of_some texts depth [] some = absurd (omega (arith, some))
text_of_some texts depth (step ∷ steps) some = refl

pub told_some : (texts : List (List ℕ)) (depth : ℕ) (steps : List WhyStep) (r : Result (List ℕ) Stop) → 0 < length steps
    → Makes r (IsDerivationTold texts depth steps) → Makes r (IsTold texts depth steps)
told_some texts depth steps r some h =
    subst (λ (t : List ℕ). Makes r (λ due. due ≡ or_long t)) (text_of_some texts depth steps some) h

pub told_none : (texts : List (List ℕ)) (depth : ℕ) (steps : List WhyStep) (text : List ℕ) → length steps ≡ 0
    → text ≡ codes "none\n" → (let R : Result (List ℕ) Refusal = Ok text in R) ≡ or_long (why_text texts depth steps)
told_none texts depth [] text none is = ap Ok is
told_none texts depth (step ∷ steps) text none is = absurd (omega (arith, none))
