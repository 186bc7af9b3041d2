-- Answers of `first_in`: what its calls ask for, and what it promises.
use Rattle.std.proofs.Common.{◌∙◌}
use Rattle.const_tables.proofs.Splitting.{split_tells}
use Rattle.const_tables.proofs.facts.first_in.Goals as goal

pub returns : goal.returns
returns c =
    c.first_before.ensures
    ∙ split_tells c.args.slot c.args.at c.args.stretches.now c.count_up_to-count.result c.requires
    c.count_up_to-count.ensures
