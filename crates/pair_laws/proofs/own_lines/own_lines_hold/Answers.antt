-- Answers of `own_lines_hold`: what its calls ask for, and what it promises.
use Rattle.pair_laws.proofs.OwnLines.Whole.{own_lines}
use Rattle.pair_laws.proofs.own_lines.own_lines_hold.Goals as goal

pub returns : goal.returns
returns c = own_lines
