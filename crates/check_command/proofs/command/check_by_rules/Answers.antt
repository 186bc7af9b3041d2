-- Answers of `check_by_rules`: what its calls ask for, and what it promises.
use Rattle.std.proofs.lemmas.Result.{err_from_is_err_and}
use Rattle.tree_io.specs.Files.{Files}
use Rattle.command_frame.proofs.Steps.{first_stops, then_finds}
use Rattle.check_command.specs.Due.{FollowsTexts, IsTexts}
use Rattle.check_command.proofs.command.check_by_rules.Goals as goal

pub returns-in_err-texts-clause-found : goal.returns-in_err-texts-clause-found
returns-in_err-texts-clause-found g c =
    let p = err_from_is_err_and c.from_residual.result c.from_residual.ensures.1 in
    rw (p.1, p.2) (first_stops (λ (fs : Files). IsTexts fs c.args.rules.now.mapping c.args.witness.now)
    (λ (fs : Files). FollowsTexts fs c.args.rules.now) c.in_err-texts.field-0.0 _ _ c.in_err-texts.ensures)

pub returns-clause-found : goal.returns-clause-found
returns-clause-found g c =
    then_finds (λ (fs : Files). IsTexts fs c.args.rules.now.mapping c.args.witness.now)
    (λ (fs : Files). FollowsTexts fs c.args.rules.now) c.in_ok-texts.texts c.check_by_texts.result _ _ _
    c.in_ok-texts.ensures c.check_by_texts.ensures.found
