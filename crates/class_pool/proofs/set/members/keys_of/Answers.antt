-- Answers of `keys_of`: what its calls ask for, and what it promises.
use Rattle.std.proofs.Common.{◌∙◌, ◌+◌, ◌++◌, ◌∷◌, [], sym, ap, subst}
use Rattle.class_pool.specs.bodies.ByName.{HasKeys, Key}
use Rattle.class_pool.proofs.Sorting.{longer}
use Rattle.class_pool.proofs.set.members.keys_of.Goals as goal

pub loop-number-preserved : goal.loop-number-preserved
loop-number-preserved c =
    subst (HasKeys c.args.class.now (c.loop-number.number + 1))
    (sym
    (c.in_ok-push.ensures.items
    ∙ ap (λ (key : Key). c.loop-number.keys.items ++ key ∷ []) c.in_ok-key_of.ensures))
    (longer c.args.class.now c.loop-number.number c.loop-number.keys.items c.loop-number.invariant)
