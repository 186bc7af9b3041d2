-- Answers of `MemoryTreeTree::write`: what its calls ask for, and what it promises.
use Rattle.std.proofs.Common.{rules}
use Rattle.tree_io.proofs.MemoryRuns.{wrote_tells}
use Rattle.tree_io.proofs.memory_tree.MemoryTreeTree.write.Goals as goal

pub returns-clause-fits : goal.returns-clause-fits
returns-clause-fits c = wrote_tells _ _ _ _ c.args.self.now.counts _ c.put_or_fail-answer.new.calls (search rules)
