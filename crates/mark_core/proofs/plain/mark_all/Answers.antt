-- Answers of `mark_all`: what its calls ask for, and what it promises.
use Rattle.std.proofs.Common.{take_all, subst, take, arith}
use Rattle.std.specs.List.{All}
use Rattle.std.proofs.lemmas.List.Elements.{All-weaker, All-more, All-get_or}
use Rattle.mark_core.specs.Marks.{IsMarked}
use Rattle.mark_core.specs.bodies.Worklist.{Has}
use Rattle.mark_core.proofs.Growing.{grows_trans}
use Rattle.mark_core.proofs.plain.mark_all.Goals as goal

pub mark-requires-clause-due : goal.mark-requires-clause-due
mark-requires-clause-due c = All-get_or
    (IsMarked c.args.sys.now) c.args.items.now c.loop-item.item-index 0 c.loop-item-test.true c.requires.due

pub loop-item-preserved : goal.loop-item-preserved
loop-item-preserved c =
    let grows = c.in_ok-mark.ensures.grows in (
      c.in_ok-mark.ensures.sound,
      grows_trans c.args.work.now c.loop-item.work c.mark.new.work c.loop-item.invariant.1 grows,
      All-more (Has c.mark.new.work) c.args.items.now c.loop-item.item-index 0 c.loop-item-test.true
          (All-weaker (Has c.loop-item.work) (Has c.mark.new.work) grows.keeps
          (take c.loop-item.item-index c.args.items.now) c.loop-item.invariant.2)
          c.in_ok-mark.ensures.has,
    )

pub returns-clause-has : goal.returns-clause-has
returns-clause-has c =
    subst (All (Has c.loop-item.work))
    (take_all c.loop-item.item-index c.args.items.now
    (omega (arith, c.loop-item-test.false))) c.loop-item.invariant.2
