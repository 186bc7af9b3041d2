-- Answers of `put`: what its calls ask for, and what it promises.
use Rattle.tree_io.proofs.Told.{put_told}
use Rattle.tree_io.proofs.memory_tree.put.Goals as goal

pub returns-clause-ok : goal.returns-clause-ok
returns-clause-ok c = put_told c.args.files.now.entries c.insert.new.self.entries c.args.path c.args.bytes
    c.in_ok-insert.ensures.updates.0
