-- Answers of `rest_after`: what its calls ask for, and what it promises.
use Rattle.tree_io.proofs.Below.{stripped}
use Rattle.tree_io.proofs.memory_tree.rest_after.Goals as goal

pub returns : goal.returns
returns c = stripped c.args.front.now c.args.path.now c.strip_prefix.result c.strip_prefix.ensures.cases
