-- Answers of `want_selected`: what its calls ask for, and what it promises.
use Rattle.std.proofs.Common.{List, refl, subst, true}
use Rattle.class_model.specs.declared.class.Class.{Class}
use Rattle.class_pool.specs.Found.{named_at}
use Rattle.class_pool.specs.Walk.{superclasses_from}
use Rattle.class_pool.specs.declared.id.ClassId.TheVariants.{Prog}
use Rattle.item_numbers.specs.bodies.Alone.{AreUndeclared}
use Rattle.item_numbers.proofs.AloneLaw.{outside_run}
use Rattle.item_needs.proofs.classes.want_selected.Goals as goal

pub returns-then-not-is_declared_above : goal.returns-then-not-is_declared_above
returns-then-not-is_declared_above c =
    outside_run c.args.wants.now c.args.number c.args.m.now true
    (subst (λ (cs : List Class). AreUndeclared cs (named_at cs c.args.m.now)
    (superclasses_from cs (Prog c.args.number))) c.set.ensures (c.if-not-is_declared_above.ensures refl))
