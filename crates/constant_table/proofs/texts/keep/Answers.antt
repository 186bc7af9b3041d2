-- Answers of `keep`: what its calls ask for, and what it promises.
use Rattle.constant_table.proofs.Numbering.{grows_kept, if_number}
use Rattle.constant_table.proofs.texts.keep.Goals as goal

pub returns-clause-number : goal.returns-clause-number
returns-clause-number c = if_number c.keep.new.self c.args.units c.keep.result c.keep.ensures.place

pub returns-clause-grows : goal.returns-clause-grows
returns-clause-grows c = grows_kept c.args.texts.now c.keep.new.self c.args.units c.keep.result c.keep.ensures.keys
