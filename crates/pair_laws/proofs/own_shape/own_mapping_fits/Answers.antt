-- Answers of `own_mapping_fits`: what its calls ask for, and what it promises.
use Rattle.pair_laws.proofs.OwnShape.Fits.{mapping_fits}
use Rattle.pair_laws.proofs.own_shape.own_mapping_fits.Goals as goal

pub returns : goal.returns
returns c = mapping_fits
