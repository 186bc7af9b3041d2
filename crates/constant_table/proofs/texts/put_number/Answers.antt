-- Answers of `put_number`: what its calls ask for, and what it promises.
use Rattle.constant_table.proofs.Numbering.{number_found}
use Rattle.constant_table.proofs.texts.put_number.Goals as goal

pub returns-clause-kept : goal.returns-clause-kept
returns-clause-kept c =
    number_found c.insert.result c.args.numbers.now c.insert.new.self c.args.text.now c.in_ok-clone.field-0
    c.args.number c.in_ok-clone.ensures.cases c.insert.ensures
