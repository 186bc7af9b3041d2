-- Answers of `ClassSet::declared_in`: what its calls ask for, and what it promises.
use Rattle.std.proofs.Common.{◌∙◌, sym}
use Rattle.class_pool.proofs.ToldMembers.{declared_below}
use Rattle.class_pool.proofs.set.ClassSet.declared_in.Goals as goal

pub returns-clause-there : goal.returns-clause-there
returns-clause-there c = (
  c.requires.there,
  declared_below c.args.self.now c.args.id c.args.name.now c.args.ty.now c.in_ok-index.index
      (sym c.declares.ensures ∙ c.in_ok-index.was),
)
