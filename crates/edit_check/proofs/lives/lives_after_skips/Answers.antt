-- Answers of `lives_after_skips`: what its calls ask for, and what it promises.
use Rattle.std.proofs.Common.{ℕ, List, Bool, ◌∙◌, ap}
use Rattle.edit_check.proofs.Living.{skips_tell}
use Rattle.edit_tables.specs.Marks.{none, with_skips}
use Rattle.edit_tables.specs.Unskipped.{unskipped}
use Rattle.edit_check.proofs.lives.lives_after_skips.Goals as goal

pub returns : goal.returns
returns c =
    skips_tell c.args.acts.now c.args.code.now c.in_ok-lives.lives.items
    (c.in_ok-lives.ensures ∙ ap (λ (skips : List Bool). unskipped skips c.args.code.now)
    (c.deref.ensures.value ∙ c.in_ok-skips.ensures
    ∙ ap (λ (n : ℕ). with_skips c.args.acts.now (none n)) c.len.ensures))
