-- Answers of `number_in`: what its calls ask for, and what it promises.
use Rattle.std.proofs.Common.{◌∙◌, sym}
use Rattle.class_pool.proofs.Noted.{number_none, number_some}
use Rattle.class_pool.proofs.set.notes.number_in.Goals as goal

pub returns-in-Some-clause-is : goal.returns-in-Some-clause-is
returns-in-Some-clause-is c =
    number_some c.args.keys.now (c.args.name.now, c.args.ty.now) c.place_of-place.result c.in-Some.field-0
    c.place_of-place.ensures (sym c.number_at.ensures ∙ c.in-Some.is)

pub returns-in-None-clause-is : goal.returns-in-None-clause-is
returns-in-None-clause-is c =
    number_none c.args.keys.now (c.args.name.now, c.args.ty.now) c.place_of-place.result c.place_of-place.ensures
    (sym c.number_at.ensures ∙ c.in-None.is)
