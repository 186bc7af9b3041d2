-- Answers of `push_named`: what its calls ask for, and what it promises.
use Rattle.class_pool.proofs.Graphing.{is_there}
use Rattle.class_pool.proofs.hierarchy.graph.push_named.Goals as goal

pub number-requires-clause-there : goal.number-requires-clause-there
number-requires-clause-there c = is_there c.args.classes.now c.in-Some.id c.in-Some.ensures.there
