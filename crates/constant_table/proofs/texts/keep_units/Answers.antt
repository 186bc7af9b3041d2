-- Answers of `keep_units`: what its calls ask for, and what it promises.
use Rattle.constant_table.proofs.Numbering.{number_is}
use Rattle.constant_table.proofs.texts.keep_units.Goals as goal

pub returns-in-Some-clause-number : goal.returns-in-Some-clause-number
returns-in-Some-clause-number c =
    number_is c.args.texts.now c.args.units.now c.in-Some.number c.in-Some.ensures.found
