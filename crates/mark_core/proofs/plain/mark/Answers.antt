-- Answers of `mark`: what its calls ask for, and what it promises.
use Rattle.std.proofs.Common.{◌<◌, true, refl, sym, subst}
use Rattle.std.specs.Vec.{with_item}
use Rattle.mark_core.proofs.Marking.{sound_after, grows_after}
use Rattle.mark_core.proofs.Sets.{read_false}
use Rattle.mark_core.proofs.plain.mark.Goals as goal

pub returns-in_ok-push-clause-sound : goal.returns-in_ok-push-clause-sound
returns-in_ok-push-clause-sound c =
    sound_after c.args.sys.now c.args.work.now
    (record { marks = with_item c.args.work.now.marks c.args.item true; waiting = c.push.new.self }) c.args.item
    c.requires.sound c.requires.item refl c.in_ok-push.ensures.items c.requires.due

pub returns-in_ok-push-clause-grows : goal.returns-in_ok-push-clause-grows
returns-in_ok-push-clause-grows c =
    grows_after c.args.sys.now c.args.work.now
    (record { marks = with_item c.args.work.now.marks c.args.item true; waiting = c.push.new.self }) c.args.item
    c.requires.sound c.requires.item refl c.in_ok-push.ensures.items
    (read_false c.args.work.now.marks.items c.args.item _
    (subst (λ k. c.args.item < k) (sym c.requires.sound.count) c.requires.item) c.index.ensures c.if-not-index.true)
