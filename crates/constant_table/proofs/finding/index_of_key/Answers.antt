-- Answers of `index_of_key`: what its calls ask for, and what it promises.
use Rattle.std.proofs.Common.{ap, ◌∙◌}
use Rattle.constant_table.specs.bodies.Keys.{index_in}
use Rattle.constant_table.proofs.Told.{index_told}
use Rattle.constant_table.proofs.finding.index_of_key.Goals as goal

pub returns : goal.returns
returns c = λ k e. c.index_of.ensures ∙ ap (index_in c.args.keys.now) e
    ∙ index_told c.args.texts.now c.args.keys.now k c.requires
