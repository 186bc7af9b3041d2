-- Answers of `MemberNotes::of`: what its calls ask for, and what it promises.
use Rattle.class_pool.proofs.set.notes.MemberNotes.of.Goals as goal

pub returns-then-not-has_many : goal.returns-then-not-has_many
returns-then-not-has_many c = c.nothing.ensures c.args.superclasses.now c.args.members.now

pub returns-then-len-ge4294967295 : goal.returns-then-len-ge4294967295
returns-then-len-ge4294967295 c = c.nothing-then-len-ge4294967295.ensures c.args.superclasses.now c.args.members.now
