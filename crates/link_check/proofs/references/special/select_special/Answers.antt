-- Answers of `select_special`: what its calls ask for, and what it promises.
use Rattle.class_pool.specs.declared.id.ClassId.TheVariants.{Prog}
use Rattle.link_check.proofs.Meaning.{method_named}
use Rattle.link_check.proofs.references.special.select_special.Goals as goal

pub special_of-requires-clause-named : goal.special_of-requires-clause-named
special_of-requires-clause-named c =
    method_named c.args.set.now (Prog c.args.from) c.args.r.now c.args.m c.requires.resolved
