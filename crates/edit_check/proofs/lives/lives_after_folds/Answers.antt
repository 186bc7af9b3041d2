-- Answers of `lives_after_folds`: what its calls ask for, and what it promises.
use Rattle.std.proofs.Common.{ℕ, List, Option, ◌∙◌, ap}
use Rattle.const_tables.specs.Folding.{folds_of, unfolded}
use Rattle.edit_check.proofs.Living.{folds_tell}
use Rattle.edit_check.proofs.lives.lives_after_folds.Goals as goal

pub returns : goal.returns
returns c =
    folds_tell c.args.acts.now c.args.code.now c.in_ok-lives.lives.items
    (c.in_ok-lives.ensures ∙ ap (λ (folds : List (Option ℕ)). unfolded folds c.args.code.now)
    (c.deref.ensures.value ∙ c.in_ok-folds.ensures
    ∙ ap (λ (n : ℕ). folds_of c.args.acts.now n) c.len.ensures))
