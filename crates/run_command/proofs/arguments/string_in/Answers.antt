-- Answers of `string_in`: what its calls ask for, and what it promises.
use Rattle.std.proofs.Common.{arith}
use Rattle.run_command.proofs.Strings.{is_no_string, is_string}
use Rattle.run_command.proofs.arguments.string_in.Goals as goal

pub returns-then-len-lt-LENGTHS : goal.returns-then-len-lt-LENGTHS
returns-then-len-lt-LENGTHS c =
    is_string c.args.word.now c.in_ok-units.units c.in_ok-units.ensures.read_back
    (omega (arith, c.if-len-lt-LENGTHS.true, c.len.ensures))

pub returns-else-len-lt-LENGTHS : goal.returns-else-len-lt-LENGTHS
returns-else-len-lt-LENGTHS c =
    is_no_string c.args.word.now c.in_ok-units.units c.in_ok-units.ensures.read_back
    (omega (arith, c.if-len-lt-LENGTHS.false, c.len.ensures))
