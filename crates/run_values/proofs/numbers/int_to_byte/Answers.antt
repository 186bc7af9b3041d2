-- Answers of `int_to_byte`: what its calls ask for, and what it promises.
use Rattle.std.proofs.Common.{rules}
use Rattle.std.specs.Int.{int_wrap}
use Rattle.run_values.proofs.numbers.int_to_byte.Goals as goal

pub returns : goal.returns
unfolding int_wrap
returns c = search rules
