-- Answers of `find_config_apart`: what its calls ask for, and what it promises.
use Rattle.std.proofs.Common.{◌≡◌, Result}
use Rattle.std.proofs.lemmas.Result.{err_from_is_err_and}
use Rattle.tree_io.specs.Files.{Files}
use Rattle.keep_rules.specs.declared.rules.Rules.{Rules}
use Rattle.command_frame.proofs.Steps.{first_stops, then_made}
use Rattle.command_frame.specs.declared.refusal.Refusal.{Refusal}
use Rattle.command_steps.specs.Config.{IsConfigured, rules_apart}
use Rattle.command_steps.proofs.config.find_config_apart.Goals as goal

pub returns-in_err-rules : goal.returns-in_err-rules
returns-in_err-rules g c =
    let p = err_from_is_err_and c.from_residual.result c.from_residual.ensures.1 in
    let config = c.args.config.now in
    let witness = c.args.witness.now in
    rw (p.1, p.2) (first_stops (λ (fs : Files). IsConfigured fs config witness)
    (λ (fs : Files) (rules : Rules) (due : Result Rules Refusal). due ≡ rules_apart config witness rules)
    c.in_err-rules.field-0.0 _ _ c.in_err-rules.ensures)

pub returns : goal.returns
returns g c =
    let config = c.args.config.now in
    let witness = c.args.witness.now in
    then_made (λ (fs : Files). IsConfigured fs config witness)
    (λ (rules : Rules) (due : Result Rules Refusal). due ≡ rules_apart config witness rules) c.in_ok-rules.rules _ _
    c.in_ok-rules.ensures c.rules_apart.result c.rules_apart.ensures
