-- Answers of `known_at`: what its calls ask for, and what it promises.
use Rattle.std.proofs.Common.{ap, ◌∙◌}
use Rattle.code_edit.specs.ConstEdits.{known_by}
use Rattle.pass_const.specs.Known.{known_in}
use Rattle.pass_const.proofs.known.known_at.Goals as goal

pub returns-in-Some : goal.returns-in-Some
returns-in-Some c =
    c.known_of.ensures c.args.code.now
    ∙ ap (known_by (known_in c.args.lists.now) c.args.code.now c.args.at) c.in-Some.ensures
