-- Answers of `good_codes_are_sound`: what its calls ask for, and what it promises.
use Rattle.edit_premises.proofs.GoodSound.{good_sound}
use Rattle.edit_laws.proofs.sound.good_codes_are_sound.Goals as goal

pub returns : goal.returns
returns c = good_sound
