-- Answers of `find_rules`: what its calls ask for, and what it promises.
use Rattle.std.proofs.Common.{◌≡◌, ℕ, List, [], Result, subst}
use Rattle.std.proofs.lemmas.Result.{err_from_is_err_and}
use Rattle.tree_io.specs.Files.{Files}
use Rattle.keep_rules.specs.declared.rules.Rules.{Rules}
use Rattle.command_frame.specs.Steps.{Finds, Seen}
use Rattle.command_frame.specs.declared.stop.Stop.{Stop}
use Rattle.command_steps.specs.Config.{IsConfigured}
use Rattle.compare_command.proofs.NoCalls.{found_nothing}
use Rattle.compare_command.proofs.finding.find_rules.Goals as goal

-- a path that is the same stands for the witness
found_with : (r : Result Rules Stop) (config path witness : List ℕ) (before after : Seen) → path ≡ witness
    → Finds r (λ (fs : Files). IsConfigured fs config path) before after
    → Finds r (λ (fs : Files). IsConfigured fs config witness) before after
found_with r config path witness before after same h =
    subst (λ (w : List ℕ). Finds r (λ (fs : Files). IsConfigured fs config w) before after) same h

pub returns-in_err-no_witness : goal.returns-in_err-no_witness
returns-in_err-no_witness g c =
    let p = err_from_is_err_and c.from_residual.result c.from_residual.ensures.1 in
    rw (p.1, p.2) (found_nothing (λ (fs : Files). IsConfigured fs c.args.config.now []) _ _ _)

pub returns : goal.returns
returns g c =
    found_with c.find_config.result c.args.config.now c.in_ok-no_witness.no_witness [] _ _ c.in_ok-no_witness.ensures
    c.find_config.ensures
