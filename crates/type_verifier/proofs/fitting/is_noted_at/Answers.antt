-- Answers of `is_noted_at`: what its calls ask for, and what it promises.
use Rattle.type_verifier.proofs.Noting.{noted_at}
use Rattle.type_verifier.proofs.fitting.is_noted_at.Goals as goal

pub returns-then-found-word : goal.returns-then-found-word
returns-then-found-word c is =
    noted_at c.args.noted.now c.args.place c.args.word c.in-Some.found.now c.args.ty.now
    c.in-Some.ensures c.if-found-word.true (c.is_same_type.ensures.0 is)
