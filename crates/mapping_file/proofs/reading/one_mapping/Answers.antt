-- Answers of `one_mapping`: what its calls ask for, and what it promises.
use Rattle.mapping_file.proofs.MapLaw.{one_reading}
use Rattle.mapping_file.proofs.reading.one_mapping.Goals as goal

pub returns : goal.returns
returns c = one_reading
