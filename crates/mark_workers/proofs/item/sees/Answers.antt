-- Answers of `sees`: what its calls ask for, and what it promises.
use Rattle.std.proofs.Common.{◌<◌, subst, sym}
use Rattle.std.specs.List.{Contains}
use Rattle.mark_core.proofs.Sets.{read_true}
use Rattle.mark_machine.specs.declared.machine.View.{View}
use Rattle.mark_machine.specs.Machine.{look}
use Rattle.mark_words.specs.Seats.{view, system_of}
use Rattle.mark_workers.specs.Work.{Kept}
use Rattle.mark_workers.proofs.Kept.{kept_refl, look_seen, look_stands}
use Rattle.mark_workers.proofs.Known.{kept_looked, knows_itself, knows_more}
use Rattle.mark_workers.proofs.item.sees.Goals as goal

pub returns-then-index-clause-kept : goal.returns-then-index-clause-kept
returns-then-index-clause-kept c = kept_refl (system_of c.args.table.now).n (view c.args.seat.now)

pub returns-then-index-clause-seen : goal.returns-then-index-clause-seen
returns-then-index-clause-seen c e =
    c.requires.knows.seen c.args.item
    (read_true c.args.tasks.now.known.items c.args.item _
    (subst (λ k. c.args.item < k) (sym c.requires.knows.count) c.requires.item) c.index.ensures c.if-index.true)

pub returns-then-is_marked-clause-knows : goal.returns-then-is_marked-clause-knows
returns-then-is_marked-clause-knows c =
    let n = (system_of c.args.table.now).n in
    let v = view c.args.seat.now in
    let w = view c.is_marked.new.seat in
    let kept = subst (Kept n v) (sym c.is_marked.ensures.event.1)
    (kept_looked n v c.args.item c.is_marked.result c.requires.item) in
    let seen : Contains w.seen c.args.item = subst (λ (u : View). Contains u.seen c.args.item)
    (sym c.is_marked.ensures.event.1) (look_seen v c.args.item c.is_marked.result c.if-is_marked.true) in
    knows_itself n w c.args.tasks.now.known.items c.args.item
    (knows_more n v w c.args.tasks.now.known.items kept.seen c.requires.knows) seen

pub returns-then-is_marked-clause-kept : goal.returns-then-is_marked-clause-kept
returns-then-is_marked-clause-kept c =
    let n = (system_of c.args.table.now).n in
    let v = view c.args.seat.now in
    subst (Kept n v) (sym c.is_marked.ensures.event.1) (kept_looked n v c.args.item c.is_marked.result c.requires.item)

pub returns-then-is_marked-clause-seen : goal.returns-then-is_marked-clause-seen
returns-then-is_marked-clause-seen c e = subst (λ (u : View). Contains u.seen c.args.item)
    (sym c.is_marked.ensures.event.1)
    (look_seen (view c.args.seat.now) c.args.item c.is_marked.result c.if-is_marked.true)

pub returns-else-is_marked-clause-knows : goal.returns-else-is_marked-clause-knows
returns-else-is_marked-clause-knows c =
    let n = (system_of c.args.table.now).n in
    let v = view c.args.seat.now in
    let w = view c.is_marked.new.seat in
    let kept = subst (Kept n v) (sym c.is_marked.ensures.event.1)
    (kept_looked n v c.args.item c.is_marked.result c.requires.item) in
    knows_more n v w c.args.tasks.now.known.items kept.seen c.requires.knows

pub returns-else-is_marked-clause-kept : goal.returns-else-is_marked-clause-kept
returns-else-is_marked-clause-kept c =
    let n = (system_of c.args.table.now).n in
    let v = view c.args.seat.now in
    subst (Kept n v) (sym c.is_marked.ensures.event.1) (kept_looked n v c.args.item c.is_marked.result c.requires.item)

pub returns-else-is_marked-clause-unseen : goal.returns-else-is_marked-clause-unseen
returns-else-is_marked-clause-unseen c e x hand =
    subst (λ (u : View). Contains u.looks (look x c.args.item)) (sym c.is_marked.ensures.event.1)
    (look_stands (view c.args.seat.now) x c.args.item c.is_marked.result hand c.if-is_marked.false)
