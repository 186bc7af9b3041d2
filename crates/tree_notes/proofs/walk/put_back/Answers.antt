-- Answers of `put_back`: what its calls ask for, and what it promises.
use Rattle.std.proofs.Common.{◌∙◌, refl, subst, get_or, ap}
use Rattle.std.proofs.lemmas.List.{take_all}
use Rattle.tree_notes.specs.bodies.Times.{changes_at, told_at}
use Rattle.tree_notes.specs.bodies.Walking.{ArePut}
use Rattle.tree_notes.proofs.Walked.{put_next}
use Rattle.tree_notes.proofs.walk.put_back.Goals as goal

pub loop-key-preserved : goal.loop-key-preserved
loop-key-preserved c =
    put_next c.args.time (λ key. told_at c.args.visit.now (changes_at c.args.changes.now.items key)) c.args.keys.now
    c.loop-key.key-index _ _ c.args.changes.now.items c.loop-key.changes.items _ c.loop-key-test.true refl
    c.loop-key.invariant
    (c.up_at-up.ensures ∙ ap (λ l. told_at c.args.visit.now (changes_at l (get_or c.args.keys.now c.loop-key.key-index 0))) c.as_slice.ensures.value
    ∙ c.loop-key.invariant.earlier (get_or c.args.keys.now c.loop-key.key-index 0) c.args.visit.now c.requires.earlier)
    c.in_ok-put.ensures

pub returns : goal.returns
returns c =
    subst (λ l. ArePut c.args.time (λ key. told_at c.args.visit.now (changes_at c.args.changes.now.items key)) l
    c.args.changes.now.items c.loop-key.changes.items)
    (take_all c.loop-key.key-index c.args.keys.now c.loop-key-test.false) c.loop-key.invariant
