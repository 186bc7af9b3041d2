-- Answers of `cut_last`: what its calls ask for, and what it promises.
use Rattle.command_words.proofs.LastCut.{last_split}
use Rattle.command_words.proofs.entries.cut_last.Goals as goal

pub returns : goal.returns
returns c = last_split c.args.text.now c.rsplit_once.result c.rsplit_once.ensures.cases
