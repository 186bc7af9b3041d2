-- Answers of `lives_after_drops`: what its calls ask for, and what it promises.
use Rattle.edit_check.proofs.Living.{drops_tell}
use Rattle.edit_check.proofs.lives.lives_after_drops.Goals as goal

pub returns : goal.returns
returns c =
    drops_tell c.args.acts.now c.args.code.now c.in_ok-lives.lives.items c.len.result c.len.ensures
    c.in_ok-lives.ensures
