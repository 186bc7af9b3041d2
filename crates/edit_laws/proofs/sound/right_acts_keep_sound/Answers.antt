-- Answers of `right_acts_keep_sound`: what its calls ask for, and what it promises.
use Rattle.edit_premises.proofs.EditedSound.{applied_sound, edited_sound}
use Rattle.edit_laws.proofs.sound.right_acts_keep_sound.Goals as goal

pub returns-clause-step : goal.returns-clause-step
returns-clause-step c = applied_sound

pub returns-clause-steps : goal.returns-clause-steps
returns-clause-steps c = edited_sound
