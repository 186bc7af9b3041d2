-- Answers of `one_witness`: what its calls ask for, and what it promises.
use Rattle.witness_file.proofs.WitnessLaw.{one_reading}
use Rattle.witness_file.proofs.reading.one_witness.Goals as goal

pub returns : goal.returns
returns c = one_reading
