-- Answers of `typed_codes_are_sound`: what its calls ask for, and what it promises.
use Rattle.flow_laws.proofs.LastGoes.{typed_sound}
use Rattle.flow_laws.proofs.laws.typed_codes_are_sound.Goals as goal

pub returns : goal.returns
returns c = typed_sound
