-- Answers of `classes_by_name`: what its calls ask for, and what it promises.
use Rattle.std.proofs.Common.{sym, subst}
use Rattle.class_pool.specs.bodies.Faults.{NamesDiffer}
use Rattle.class_pool.proofs.hierarchy.building.classes_by_name.Goals as goal

pub of-requires-clause-differ : goal.of-requires-clause-differ
of-requires-clause-differ c = subst NamesDiffer (sym c.in_ok-classes.ensures) c.requires.differ
