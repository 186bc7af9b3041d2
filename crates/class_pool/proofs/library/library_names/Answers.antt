-- Answers of `library_names`: what its calls ask for, and what it promises.
use Rattle.std.proofs.Common.{refl}
use Rattle.lib_table.specs.Library.{library}
use Rattle.class_pool.proofs.library.library_names.Goals as goal

pub returns : goal.returns
unfolding library
returns c = refl
