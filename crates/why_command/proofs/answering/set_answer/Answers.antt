-- Answers of `set_answer`: what its calls ask for, and what it promises.
use Rattle.std.proofs.Common.{ℕ, List, length, ap, subst, ◌∙◌}
use Rattle.std.proofs.lemmas.Result.{err_from_is_err_and}
use Rattle.mark_core.specs.declared.system.System.{System}
use Rattle.list_texts.specs.ItemTexts.{item_texts}
use Rattle.command_frame.proofs.Steps.{makes_stops, then_makes}
use Rattle.command_frame.specs.Steps.{Makes}
use Rattle.command_steps.specs.System.{IsSystem}
use Rattle.why_command.specs.Due.{FollowsSystem}
use Rattle.why_command.proofs.Required.{each_text}
use Rattle.why_command.proofs.answering.set_answer.Goals as goal

pub returns-in_err-sys-clause-answered : goal.returns-in_err-sys-clause-answered
returns-in_err-sys-clause-answered c =
    let p = err_from_is_err_and c.from_residual.result c.from_residual.ensures.1 in
    rw (p.1, p.2) (makes_stops (IsSystem c.args.rules.now c.args.set.now)
    (λ (sys : System). FollowsSystem (item_texts c.args.set.now) c.args.item.now sys) c.in_err-sys.field-0.0
    c.in_err-sys.ensures.made)

pub system_answer-requires-clause-count : goal.system_answer-requires-clause-count
system_answer-requires-clause-count c =
    ap length (c.as_slice.ensures ∙ c.in_ok-texts.ensures)
    ∙ each_text c.args.rules.now c.args.set.now c.in_ok-sys.sys c.in_ok-sys.ensures.made

pub returns-clause-answered : goal.returns-clause-answered
returns-clause-answered c =
    let answer = c.system_answer.result in
    let item = c.args.item.now in
    let texts : List (List ℕ) = item_texts c.args.set.now in
    let made : Makes answer (FollowsSystem texts item c.in_ok-sys.sys) = subst
    (λ (t : List (List ℕ)). Makes answer (FollowsSystem t item c.in_ok-sys.sys))
    (c.as_slice.ensures ∙ c.in_ok-texts.ensures) c.system_answer.ensures.answered in
    then_makes (IsSystem c.args.rules.now c.args.set.now) (λ (sys : System). FollowsSystem texts item sys)
    c.in_ok-sys.sys answer c.in_ok-sys.ensures.made made
