-- Answers of `put_each`: what its calls ask for, and what it promises.
use Rattle.std.proofs.Common.{refl, subst}
use Rattle.std.proofs.lemmas.List.{take_all}
use Rattle.tree_notes.specs.bodies.Walking.{ArePut}
use Rattle.tree_notes.specs.declared.nearest.Up.TheVariants.{At}
use Rattle.tree_notes.proofs.Walked.{put_next}
use Rattle.tree_notes.proofs.walk.put_each.Goals as goal

pub loop-key-preserved : goal.loop-key-preserved
loop-key-preserved c =
    put_next c.args.time (λ key. At c.args.node) c.args.keys.now c.loop-key.key-index _ _ c.args.changes.now.items
    c.loop-key.changes.items _ c.loop-key-test.true refl c.loop-key.invariant refl c.in_ok-put.ensures

pub returns : goal.returns
returns c =
    subst (λ l. ArePut c.args.time (λ key. At c.args.node) l c.args.changes.now.items c.loop-key.changes.items)
    (take_all c.loop-key.key-index c.args.keys.now c.loop-key-test.false) c.loop-key.invariant
