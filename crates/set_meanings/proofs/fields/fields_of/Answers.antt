-- Answers of `fields_of`: what its calls ask for, and what it promises.
use Rattle.std.proofs.Common.{Some, sym, ap, ◌∙◌}
use Rattle.set_meanings.proofs.Constants.{keys_told}
use Rattle.set_meanings.proofs.fields.fields_of.Goals as goal

pub returns-in-Some-Prog : goal.returns-in-Some-Prog
returns-in-Some-Prog c =
    keys_told c.args.set.now c.args.class.now c.in-Some-Prog.number c.class.result.now c.keys_of.result
    (sym c.find.ensures.found ∙ c.in-Some-Prog.is ∙ ap Some c.in-Some-Prog.field-0-is) c.class.ensures.is
    c.keys_of.ensures
