-- Answers of `classes`: what its calls ask for, and what it promises.
use Rattle.std.proofs.Common.{refl}
use Rattle.lib_table.specs.Library.{library}
use Rattle.lib_table.proofs.table.classes.Goals as goal

pub returns : goal.returns
unfolding library
returns c = refl
