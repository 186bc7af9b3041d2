-- Answers of `named_classes`: what its calls ask for, and what it promises.
use Rattle.class_pool.proofs.FaultLaws.{names_differ}
use Rattle.class_pool.proofs.hierarchy.building.named_classes.Goals as goal

pub classes_by_name-requires-clause-differ : goal.classes_by_name-requires-clause-differ
classes_by_name-requires-clause-differ c = names_differ c.args.files c.requires.ascend c.in_ok-check_names.ensures
