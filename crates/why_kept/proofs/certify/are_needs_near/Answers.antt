-- Answers of `are_needs_near`: what its calls ask for, and what it promises.
use Rattle.std.proofs.Common.{◌+◌, ⊎_elim, sym, subst, arith}
use Rattle.std.proofs.lemmas.Bool.{cases_eq}
use Rattle.mark_core.specs.Marks.{needs_of}
use Rattle.why_kept.specs.Levels.{AreNear, HasLevel, level_of}
use Rattle.why_kept.proofs.certify.are_needs_near.Goals as goal

pub loop-item-preserved : goal.loop-item-preserved
loop-item-preserved c =
    let sys = c.args.sys.now in
    let levels = c.args.levels.now in
    λ x lt has.
    ⊎_elim
    (λ same. subst (λ z. HasLevel sys levels z → AreNear sys levels (level_of sys levels z + 1) (needs_of sys z))
    (sym same) (c.is_item_near.ensures.0 c.if-not-is_item_near.false) has)
    (λ other. c.loop-item.invariant x (omega (arith, lt, other)) has)
    (cases_eq x c.loop-item.item)
