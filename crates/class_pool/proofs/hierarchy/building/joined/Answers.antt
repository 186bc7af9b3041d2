-- Answers of `joined`: what its calls ask for, and what it promises.
use Rattle.class_pool.proofs.CycleLaws.{none_cyclic}
use Rattle.class_pool.proofs.hierarchy.building.joined.Goals as goal

pub invariant_of-result : goal.invariant_of-result
invariant_of-result c = (
  c.requires.tables.above.library,
  c.requires.ranks,
  c.requires.tables.members.indexes,
  none_cyclic c.args.classes c.requires.ranks,
  c.requires.tables.above.own,
  c.requires.tables.members.descriptors,
  c.requires.tables.object,
  c.requires.object,
  c.requires.tables.superclasses,
  c.requires.tables.notes,
)
