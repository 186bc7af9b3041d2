-- Answers of `MemoryTreeTree::read`: what its calls ask for, and what it promises.
use Rattle.std.proofs.Common.{rules}
use Rattle.tree_io.proofs.MemoryRuns.{read_tells}
use Rattle.tree_io.proofs.memory_tree.MemoryTreeTree.read.Goals as goal

pub returns-clause-fits : goal.returns-clause-fits
returns-clause-fits c = read_tells _ _ _ _ _ (search rules) (search rules)
