-- Answers of `filtered_can_be_written`: what its calls ask for, and what it promises.
use Rattle.set_shrink.proofs.Writable.{filtered_writable}
use Rattle.set_shrink.proofs.laws.filtered_can_be_written.Goals as goal

pub returns : goal.returns
returns c = filtered_writable
