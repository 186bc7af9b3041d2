-- Answers of `at_path`: what its calls ask for, and what it promises.
use Rattle.std.proofs.Common.{sym, ◌∙◌}
use Rattle.tree_io.proofs.Told.{get_told}
use Rattle.tree_io.proofs.memory_tree.at_path.Goals as goal

pub returns : goal.returns
returns c = c.get.ensures.value ∙ sym (get_told c.args.files.now.entries c.args.path.now)
