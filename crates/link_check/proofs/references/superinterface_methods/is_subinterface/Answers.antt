-- Answers of `is_subinterface`: what its calls ask for, and what it promises.
use Rattle.std.proofs.Common.{◌∙◌, ap}
use Rattle.std.specs.List.{list_any}
use Rattle.class_pool.specs.Walk.{same_class}
use Rattle.link_check.proofs.Choosing.{subinterface_met}
use Rattle.link_check.proofs.references.superinterface_methods.is_subinterface.Goals as goal

pub loop-interface-init : goal.loop-interface-init
loop-interface-init c =
    ap (list_any (same_class c.args.above.now))
    (c.into_iter-interface-iterator.ensures.into_iter_gives ∙ c.of-interface-items.ensures.are)
    ∙ subinterface_met c.args.set.now c.args.below c.args.above.now
