-- Answers of `take_all`: what its calls ask for, and what it promises.
use Rattle.std.proofs.Common.{refl, subst, sym}
use Rattle.std.specs.List.{Contains}
use Rattle.std.proofs.lemmas.List.Elements.{All-contains, Contains-push}
use Rattle.mark_core.specs.bodies.Worklist.{Has}
use Rattle.mark_core.proofs.Opening.{open_after}
use Rattle.mark_core.proofs.plain.take_all.Goals as goal

pub take-requires-clause-due : goal.take-requires-clause-due
take-requires-clause-due c =
    let sound = c.loop-item.invariant.sound in
    sound.due c.in-Some.item
    (All-contains (Has c.loop-item.work) c.loop-item.work.waiting.items c.in-Some.item sound.marked
    (subst (λ l. Contains l c.in-Some.item) (sym c.in-Some.ensures.items)
    (Contains-push c.pop.new.self.items c.in-Some.item)))

pub loop-item-preserved : goal.loop-item-preserved
loop-item-preserved c =
    open_after c.args.sys.now c.loop-item.work
    (record { marks = c.loop-item.work.marks; waiting = c.pop.new.self }) c.take.new.work c.in-Some.item
    c.loop-item.invariant refl c.in-Some.ensures.items
    c.in_ok-take.ensures.sound c.in_ok-take.ensures.grows c.in_ok-take.ensures.needs c.in_ok-take.ensures.pairs
