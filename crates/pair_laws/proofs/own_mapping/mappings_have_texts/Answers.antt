-- Answers of `mappings_have_texts`: what its calls ask for, and what it promises.
use Rattle.pair_laws.proofs.OwnMapping.Mapped.{is_mapping}
use Rattle.pair_laws.proofs.own_mapping.mappings_have_texts.Goals as goal

pub returns : goal.returns
returns c = is_mapping
