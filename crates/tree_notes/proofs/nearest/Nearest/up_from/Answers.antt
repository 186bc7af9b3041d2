-- Answers of `Nearest::up_from`: what its calls ask for, and what it promises.
use Rattle.std.proofs.Common.{refl}
use Rattle.tree_notes.specs.Notes.{one}
use Rattle.tree_notes.proofs.nearest.Nearest.up_from.Goals as goal

pub returns-in_default : goal.returns-in_default
returns-in_default c parents keys is = one refl

pub returns-in_default-2 : goal.returns-in_default-2
returns-in_default-2 c parents keys is = one refl

pub returns-in_default-3 : goal.returns-in_default-3
returns-in_default-3 c parents keys is = one refl
