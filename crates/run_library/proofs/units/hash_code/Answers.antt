-- Answers of `hash_code`: what its calls ask for, and what it promises.
use Rattle.std.proofs.Common.{rules}
use Rattle.std.specs.Int.{int_wrap}
use Rattle.run_library.proofs.units.hash_code.Goals as goal

pub returns : goal.returns
unfolding int_wrap
returns c = search rules
