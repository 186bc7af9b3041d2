-- Answers of `member_key`: what its calls ask for, and what it promises.
use Rattle.std.proofs.Common.{sym, ◌∙◌}
use Rattle.class_pool.proofs.Declaring.{declared_named}
use Rattle.set_meanings.proofs.fields.member_key.Goals as goal

pub key_at-requires-clause-named : goal.key_at-requires-clause-named
key_at-requires-clause-named c =
    declared_named c.args.set.now (c.args.name.now, c.args.descriptor.now) c.args.class c.in-Some.m
    (sym c.declared_in.ensures.is ∙ c.in-Some.is)
