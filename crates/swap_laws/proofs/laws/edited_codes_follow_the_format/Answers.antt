-- Answers of `edited_codes_follow_the_format`: what its calls ask for, and what it promises.
use Rattle.swap_laws.proofs.EditedSets.{edited_swapped}
use Rattle.swap_laws.proofs.InFormat.{edited_good}
use Rattle.swap_laws.proofs.laws.edited_codes_follow_the_format.Goals as goal

pub returns-clause-format : goal.returns-clause-format
returns-clause-format c = edited_good

pub returns-clause-swapped : goal.returns-clause-swapped
returns-clause-swapped c = edited_swapped
