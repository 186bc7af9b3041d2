-- Answers of `entries_have_lines`: what its calls ask for, and what it promises.
use Rattle.pair_laws.proofs.PairSame.Entered.{entries_kept}
use Rattle.pair_laws.proofs.pair_same.entries_have_lines.Goals as goal

pub returns : goal.returns
returns c = entries_kept
