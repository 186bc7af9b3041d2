-- Answers of `keep_text`: what its calls ask for, and what it promises.
use Rattle.std.proofs.Common.{sym, ◌∙◌}
use Rattle.jv_base.specs.Utf16.{units_of}
use Rattle.constant_table.proofs.Numbering.{number_told, text_there}
use Rattle.constant_table.proofs.texts.keep_text.Goals as goal

pub returns-in-Some-clause-text : goal.returns-in-Some-clause-text
returns-in-Some-clause-text c =
    text_there c.args.texts.now c.in-Some.number (units_of c.args.text.now)
    (number_told c.args.texts.now c.args.numbers.now c.args.text.now c.in-Some.number c.requires
    (sym c.in-Some.is ∙ c.number_kept.ensures))
