-- Answers of `push_units`: what its calls ask for, and what it promises.
use Rattle.std.proofs.Common.{◌++◌}
use Rattle.std.specs.Prelude.{string_bytes}
use Rattle.run_command.proofs.Units.{all_shown}
use Rattle.run_command.specs.Shown.{in_utf8}
use Rattle.run_command.proofs.shown.push_units.Goals as goal

pub returns : goal.returns
returns c =
    all_shown (string_bytes c.loop-left.text) c.loop-left.left.now
    (string_bytes c.args.text.now ++ in_utf8 c.args.units.now) c.in_default.len_below c.loop-left.invariant
