-- Answers of `ClassSet::method_like`: what its calls ask for, and what it promises.
use Rattle.std.proofs.Common.{◌∙◌, sym}
use Rattle.class_pool.specs.Found.{named_at}
use Rattle.class_pool.proofs.ToldMembers.{declared_below}
use Rattle.class_pool.proofs.set.ClassSet.method_like.Goals as goal

pub returns-clause-there : goal.returns-clause-there
returns-clause-there c = (
  c.requires.class,
  declared_below c.args.self.now c.args.id (named_at c.args.self.now c.args.m).0
      (named_at c.args.self.now c.args.m).1 c.in_ok-index.index
      (sym c.number_like.ensures ∙ c.in_ok-index.was),
)
