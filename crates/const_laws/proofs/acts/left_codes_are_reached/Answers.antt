-- Answers of `left_codes_are_reached`: what its calls ask for, and what it promises.
use Rattle.const_laws.proofs.Reached.{all_reached}
use Rattle.const_laws.proofs.acts.left_codes_are_reached.Goals as goal

pub returns : goal.returns
returns c = all_reached
