-- Answers of `shrink_by_rules`: what its calls ask for, and what it promises.
use Rattle.std.proofs.lemmas.Result.{err_from_is_err_and}
use Rattle.tree_io.specs.Files.{Files}
use Rattle.command_frame.proofs.Steps.{first_stops, then_finds}
use Rattle.command_steps.specs.Texts.{IsEarlier}
use Rattle.shrink_command.specs.Due.{FollowsEarlier}
use Rattle.shrink_command.proofs.command.shrink_by_rules.Goals as goal

pub returns-in_err-old : goal.returns-in_err-old
returns-in_err-old g c =
    let p = err_from_is_err_and c.from_residual.result c.from_residual.ensures.1 in
    let rules = c.args.rules.now in
    rw (p.1, p.2) (first_stops (λ (fs : Files). IsEarlier fs rules.apply)
    (λ (fs : Files). FollowsEarlier fs c.args.witness.now rules) c.in_err-old.field-0.0 _ _ c.in_err-old.ensures.found)

pub returns : goal.returns
returns g c =
    let rules = c.args.rules.now in
    then_finds (λ (fs : Files). IsEarlier fs rules.apply) (λ (fs : Files). FollowsEarlier fs c.args.witness.now rules)
    c.in_ok-old.old c.shrink_by_earlier.result _ _ _ c.in_ok-old.ensures.found c.shrink_by_earlier.ensures
