-- Answers of `ClassSet::is_method`: what its calls ask for, and what it promises.
use Rattle.class_pool.specs.Found.{row_at}
use Rattle.class_pool.proofs.ToldMembers.{told_method}
use Rattle.class_pool.proofs.set.ClassSet.is_method.Goals as goal

pub returns : goal.returns
returns c = told_method (row_at c.args.self.now c.args.m) c.facts_of.result c.facts_of.ensures
