-- Answers of `derivation_text`: what its calls ask for, and what it promises.
use Rattle.std.proofs.Common.{◌≡◌, ◌≤◌, ◌+◌, ◌++◌, List, ℕ, length, Ok, Err, sym, ap, subst, ◌∙◌, arith, append-nil}
use Rattle.std.specs.Prelude.{string_bytes}
use Rattle.std.specs.List.{flat_map}
use Rattle.std.proofs.lemmas.List.{take_all}
use Rattle.std.proofs.lemmas.Result.{err_from_is_err_and}
use Rattle.list_texts.proofs.Limits.{front_within}
use Rattle.why_kept.specs.declared.reasons.By.TheVariants as by
use Rattle.why_kept.specs.declared.reasons.WhyStep.{WhyStep}
use Rattle.why_command.specs.Telling.{depth_line, derivation_text, step_line}
use Rattle.why_command.specs.bodies.Limits.{IsWithin}
use Rattle.why_command.proofs.LongTexts.{depth_short, lines_more, short_enough, stops}
use Rattle.why_command.proofs.telling.derivation_text.Goals as goal

abbrev none : WhyStep
none = record { id = 0; by = by.Seed }

pub loop-step-init : goal.loop-step-init
loop-step-init c = record {
  text = c.in_ok-text.ensures ∙ sym (append-nil (depth_line c.args.depth));
  short = subst (λ (t : List ℕ). length t ≤ 67108864) (sym c.in_ok-text.ensures)
      (depth_short c.args.depth (omega arith));
}

pub returns-in_err-check_length : goal.returns-in_err-check_length
returns-in_err-check_length c =
    let texts = c.args.texts.now in
    let steps = c.args.steps.now in
    let front : List ℕ = string_bytes c.push_step.new.out in
    let made = lines_more texts steps c.loop-step.step-index none (depth_line c.args.depth)
    (string_bytes c.loop-step.text) front c.loop-step-test.true c.loop-step.invariant.text c.in_ok-push_step.ensures in
    let e = c.in_err-check_length.field-0.0 in
    let long = subst (λ (t : List ℕ). IsWithin (Err e) t) c.as_str.ensures.value c.in_err-check_length.ensures in
    let p = err_from_is_err_and c.from_residual-in_err-check_length.result
    c.from_residual-in_err-check_length.ensures.1 in
    rw (p.1, p.2) (stops e front (derivation_text texts c.args.depth steps)
    (front_within (step_line texts) steps (c.loop-step.step-index + 1) (depth_line c.args.depth) front made) long)

pub loop-step-preserved : goal.loop-step-preserved
loop-step-preserved c = record {
  text = lines_more c.args.texts.now c.args.steps.now c.loop-step.step-index none (depth_line c.args.depth)
      (string_bytes c.loop-step.text) (string_bytes c.push_step.new.out) c.loop-step-test.true
      c.loop-step.invariant.text c.in_ok-push_step.ensures;
  short = subst (λ (t : List ℕ). length t ≤ 67108864) c.as_str.ensures.value c.in_ok-check_length.ensures;
}

pub returns : goal.returns
returns c =
    let texts = c.args.texts.now in
    let steps = c.args.steps.now in
    let all = take_all c.loop-step.step-index steps (omega (arith, c.loop-step-test.false)) in
    let is : string_bytes c.loop-step.text ≡ derivation_text texts c.args.depth steps = c.loop-step.invariant.text
    ∙ ap (λ (t : List WhyStep). depth_line c.args.depth ++ flat_map (step_line texts) t) all in
    ap Ok (c.bytes_of.ensures ∙ is)
    ∙ sym (short_enough (derivation_text texts c.args.depth steps)
    (subst (λ (t : List ℕ). length t ≤ 67108864) is c.loop-step.invariant.short))
