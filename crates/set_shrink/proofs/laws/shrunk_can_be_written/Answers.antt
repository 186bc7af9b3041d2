-- Answers of `shrunk_can_be_written`: what its calls ask for, and what it promises.
use Rattle.set_shrink.proofs.Writable.{shrunk_writable}
use Rattle.set_shrink.proofs.laws.shrunk_can_be_written.Goals as goal

pub returns : goal.returns
returns c = shrunk_writable
