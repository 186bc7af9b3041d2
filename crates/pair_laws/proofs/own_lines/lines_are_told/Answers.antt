-- Answers of `lines_are_told`: what its calls ask for, and what it promises.
use Rattle.pair_laws.proofs.OwnLines.Whole.{lines_told}
use Rattle.pair_laws.proofs.own_lines.lines_are_told.Goals as goal

pub returns : goal.returns
returns c = lines_told
