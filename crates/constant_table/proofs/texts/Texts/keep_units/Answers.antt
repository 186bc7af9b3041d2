-- Answers of `Texts::keep_units`: what its calls ask for, and what it promises.
use Rattle.constant_table.proofs.Numbering.{numbers_grown, if_text}
use Rattle.constant_table.proofs.texts.Texts.keep_units.Goals as goal

pub invariant_of-self : goal.invariant_of-self
invariant_of-self c = numbers_grown c.self.inside.units c.keep_units.new.texts c.self.inside.numbers
    c.keep_units.ensures.grows c.self.invariant

pub returns-clause-text : goal.returns-clause-text
returns-clause-text c = if_text c.keep_units.new.texts c.args.units.now c.keep_units.result c.keep_units.ensures.number
