-- Answers of `files_are_one_set`: what its calls ask for, and what it promises.
use Rattle.set_read.proofs.OneSet.{not_both, one_fault, one_set}
use Rattle.set_read.proofs.laws.files_are_one_set.Goals as goal

pub returns : goal.returns
returns c = record { set = one_set; fault = one_fault; either = not_both }
