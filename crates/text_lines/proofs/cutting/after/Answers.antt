-- Answers of `after`: what its calls ask for, and what it promises.
use Rattle.text_lines.proofs.Parts.{stripped}
use Rattle.text_lines.proofs.cutting.after.Goals as goal

pub returns : goal.returns
returns c = stripped c.args.front.now c.args.text.now c.strip_prefix.result c.strip_prefix.ensures.cases
