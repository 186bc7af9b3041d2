-- Answers of `cut`: what its calls ask for, and what it promises.
use Rattle.text_lines.proofs.Parts.{split}
use Rattle.text_lines.proofs.cutting.cut.Goals as goal

pub returns : goal.returns
returns c = split c.args.byte c.args.text.now c.split_once.result c.split_once.ensures.cases c.requires
