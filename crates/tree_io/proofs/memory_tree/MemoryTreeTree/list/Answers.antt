-- Answers of `MemoryTreeTree::list`: what its calls ask for, and what it promises.
use Rattle.std.proofs.Common.{rules}
use Rattle.tree_io.proofs.MemoryRuns.{listed_tells}
use Rattle.tree_io.proofs.memory_tree.MemoryTreeTree.list.Goals as goal

pub returns-clause-fits : goal.returns-clause-fits
returns-clause-fits c = listed_tells _ _ _ _ _ (search rules) (search rules)
