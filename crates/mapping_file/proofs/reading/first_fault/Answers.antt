-- Answers of `first_fault`: what its calls ask for, and what it promises.
use Rattle.mapping_file.proofs.MapLaw.{first_at_fault}
use Rattle.mapping_file.proofs.reading.first_fault.Goals as goal

pub returns : goal.returns
returns c = first_at_fault
