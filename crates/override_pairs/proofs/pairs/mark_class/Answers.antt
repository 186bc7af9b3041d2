-- Answers of `mark_class`: what its calls ask for, and what it promises.
use Rattle.std.proofs.Common.{Some, ap, refl, subst, ◌∙◌}
use Rattle.class_pool.specs.Hierarchy.{IsClass}
use Rattle.class_pool.specs.Walk.{superclasses_from}
use Rattle.class_pool.specs.declared.id.ClassId.TheVariants.{Prog}
use Rattle.item_numbers.proofs.Looking.{above_put}
use Rattle.override_pairs.proofs.ChainSteps.{at_among}
use Rattle.override_pairs.proofs.pairs.mark_class.Goals as goal

pub returns-in-Prog-clause-below : goal.returns-in-Prog-clause-below
returns-in-Prog-clause-below c =
    above_put c.args.set.now c.args.below.now.items _ c.in-Prog.above c.args.number c.requires.below
    (subst (IsClass c.args.set.now) c.in-Prog.is c.requires.there)
    (at_among (superclasses_from c.args.set.now (Prog c.args.number)) c.args.step (Prog c.in-Prog.above)
    (c.requires.above ∙ ap Some c.in-Prog.is)) refl
