-- Answers of `ClassSet::has_flag`: what its calls ask for, and what it promises.
use Rattle.std.proofs.Common.{◌∙◌}
use Rattle.class_pool.specs.Found.{row_at}
use Rattle.class_pool.proofs.ToldMembers.{told_flag}
use Rattle.class_pool.proofs.set.ClassSet.has_flag.Goals as goal

pub returns : goal.returns
returns c = c.contains.ensures tt
    ∙ told_flag c.args.flag.0 (row_at c.args.self.now c.args.m) c.facts_of.result c.facts_of.ensures
