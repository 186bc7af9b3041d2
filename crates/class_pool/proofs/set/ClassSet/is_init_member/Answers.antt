-- Answers of `ClassSet::is_init_member`: what its calls ask for, and what it promises.
use Rattle.class_pool.specs.Found.{row_at}
use Rattle.class_pool.proofs.ToldMembers.{told_init}
use Rattle.class_pool.proofs.set.ClassSet.is_init_member.Goals as goal

pub returns : goal.returns
returns c = told_init (row_at c.args.self.now c.args.m) c.facts_of.result c.facts_of.ensures
