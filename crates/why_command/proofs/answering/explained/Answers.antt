-- Answers of `explained`: what its calls ask for, and what it promises.
use Rattle.std.proofs.Common.{◌≡◌, ℕ, List, Result, Ok, ap, subst, sym}
use Rattle.std.proofs.lemmas.Option.{get_or_from_slice_get}
use Rattle.std.proofs.lemmas.Result.{err_from_is_err_and}
use Rattle.tree_io.specs.declared.file_at.FileAt.{FileAt}
use Rattle.why_kept.specs.Levels.{level_of}
use Rattle.why_kept.specs.declared.reasons.WhyStep.{WhyStep}
use Rattle.command_frame.proofs.Steps.{had, makes_stops, stopped, then_makes}
use Rattle.command_frame.specs.Steps.{Makes}
use Rattle.command_frame.specs.declared.command.Plan.{Plan}
use Rattle.command_frame.specs.declared.refusal.Refusal.{Refusal}
use Rattle.command_frame.specs.declared.stop.Stop.{Stop}
use Rattle.why_command.specs.Due.{AreReasons, FollowsReasons, GivesReasons, says}
use Rattle.why_command.specs.Telling.{IsTold}
use Rattle.why_command.proofs.answering.explained.Goals as goal

-- the plan that says a text
abbrev Says : List ℕ → Result Plan Refusal → Type 0
Says text due = due ≡ Ok (says text)

-- what is said with these files
abbrev ok_with : List ℕ → List FileAt → Result Plan Refusal
ok_with text files = Ok (record { files = files; text = text })

told_as : (texts : List (List ℕ)) (depth level : ℕ) (all steps : List WhyStep) (r : Result (List ℕ) Stop)
    → depth ≡ level → all ≡ steps → Makes r (IsTold texts depth all) → Makes r (IsTold texts level steps)
told_as texts depth level all steps r same also h =
    subst (λ (d : ℕ). Makes r (IsTold texts d steps)) same
    (subst (λ (s : List WhyStep). Makes r (IsTold texts depth s)) also h)

pub returns-in_err-text-clause-answered : goal.returns-in_err-text-clause-answered
returns-in_err-text-clause-answered c =
    let p = err_from_is_err_and c.from_residual-in_err-text.result c.from_residual-in_err-text.ensures.1 in
    let sys = c.args.sys.now in
    let texts = c.args.texts.now in
    let reasons = c.in_ok-reasons.reasons in
    let stop = c.in_err-text.field-0.0 in
    let depth = c.index-depth.result.now in
    let level : ℕ = level_of sys reasons.levels c.args.id in
    let same : depth ≡ level =
    sym (get_or_from_slice_get reasons.levels c.args.id depth sys.n c.index-depth.ensures) in
    let are : AreReasons sys c.args.id reasons = record {
      certified = c.in_ok-reasons.ensures.certified;
      least = c.in_ok-reasons.ensures.least;
      steps = c.in_ok-reasons.ensures.steps;
    } in
    rw (p.1, p.2) (then_makes (GivesReasons sys c.args.id) (FollowsReasons texts sys c.args.id) reasons (stopped stop) are
    (makes_stops (IsTold texts level reasons.steps) Says stop
    (told_as texts depth level c.as_slice.result.now reasons.steps (stopped stop) same c.as_slice.ensures
    c.in_err-text.ensures)))

pub returns-clause-answered : goal.returns-clause-answered
returns-clause-answered c =
    let sys = c.args.sys.now in
    let texts = c.args.texts.now in
    let reasons = c.in_ok-reasons.reasons in
    let text = c.in_ok-text.text in
    let depth = c.index-depth.result.now in
    let level : ℕ = level_of sys reasons.levels c.args.id in
    let same : depth ≡ level =
    sym (get_or_from_slice_get reasons.levels c.args.id depth sys.n c.index-depth.ensures) in
    let are : AreReasons sys c.args.id reasons = record {
      certified = c.in_ok-reasons.ensures.certified;
      least = c.in_ok-reasons.ensures.least;
      steps = c.in_ok-reasons.ensures.steps;
    } in
    let plan : Plan = record { files = c.new.result; text = text } in
    let made : Makes (had plan) (FollowsReasons texts sys c.args.id reasons) = then_makes
    (IsTold texts level reasons.steps) Says text (had plan)
    (told_as texts depth level c.as_slice.result.now reasons.steps (had text) same c.as_slice.ensures
    c.in_ok-text.ensures) (ap (ok_with text) c.new.ensures) in
    then_makes (GivesReasons sys c.args.id) (FollowsReasons texts sys c.args.id) reasons (had plan) are made
