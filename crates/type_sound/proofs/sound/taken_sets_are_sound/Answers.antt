-- Answers of `taken_sets_are_sound`: what its calls ask for, and what it promises.
use Rattle.type_sound.proofs.Whole.{never_goes_wrong, same_whole, starts_fit, step_keeps, taken_sound}
use Rattle.type_sound.proofs.sound.taken_sets_are_sound.Goals as goal

pub returns : goal.returns
returns c = record {
  sound = taken_sound;
  law_step_fits = step_keeps;
  law_start_fits = starts_fit;
  law_never_wrong = never_goes_wrong;
  law_same_whole = same_whole;
}
