-- Answers of `settle`: what its calls ask for, and what it promises.
use Rattle.std.proofs.Common.{refl}
use Rattle.const_facts.proofs.Settling.{open_after}
use Rattle.const_facts.proofs.work.settle.Goals as goal

pub loop-at-preserved : goal.loop-at-preserved
loop-at-preserved c =
    open_after c.args.code.now c.args.slot c.loop-at.work
    (record { held = c.loop-at.work.held; waiting = c.pop.new.self }) c.look.new.work c.in-Some.at
    c.loop-at.invariant refl c.in-Some.ensures.items
    c.in_ok-look.ensures.above c.in_ok-look.ensures.grows c.in_ok-look.ensures.flows
