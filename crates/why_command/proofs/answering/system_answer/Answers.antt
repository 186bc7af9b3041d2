-- Answers of `system_answer`: what its calls ask for, and what it promises.
use Rattle.std.proofs.lemmas.Result.{err_from_is_err_and}
use Rattle.command_frame.proofs.Steps.{makes_stops, then_makes}
use Rattle.why_command.specs.Due.{IsExplained, IsNumbered}
use Rattle.why_command.proofs.answering.system_answer.Goals as goal

pub returns-in_err-id-clause-answered : goal.returns-in_err-id-clause-answered
returns-in_err-id-clause-answered c =
    let p = err_from_is_err_and c.from_residual.result c.from_residual.ensures.1 in
    rw (p.1, p.2) (makes_stops (IsNumbered c.args.texts.now c.args.item.now)
    (IsExplained c.args.texts.now c.args.sys.now) c.in_err-id.field-0.0 c.in_err-id.ensures.found)

pub returns-clause-answered : goal.returns-clause-answered
returns-clause-answered c =
    then_makes (IsNumbered c.args.texts.now c.args.item.now) (IsExplained c.args.texts.now c.args.sys.now)
    c.in_ok-id.id c.explained.result c.in_ok-id.ensures.found c.explained.ensures.answered
