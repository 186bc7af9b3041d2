-- Answers of `enter`: what its calls ask for, and what it promises.
use Rattle.std.proofs.Common.{◌<◌, ◌∙◌, [], length, arith, refl, subst}
use Rattle.std.proofs.lemmas.List.{get_or_default}
use Rattle.tree_notes.specs.bodies.Walking.{ArePut}
use Rattle.tree_notes.specs.declared.nearest.Up.TheVariants.{At}
use Rattle.tree_notes.proofs.Walked.{entered}
use Rattle.tree_notes.proofs.walk.enter.Goals as goal

pub returns : goal.returns
returns c =
    let inside : c.args.node < length c.args.keys.now = omega (arith, c.if-at-keys.false) in
    entered c.args.parents.now c.args.keys.now c.args.walk.now c.requires c.in-Some.time c.in-Some.ensures _ c.args.node
    c.visit_below-visit.result
    (subst (λ l. ArePut c.in-Some.time (λ key. At c.args.node) l c.args.walk.now.nearest.changes.items
    c.put_each.new.changes.items)
    (c.as_slice.ensures ∙ c.index-keys-at.is ∙ get_or_default c.args.keys.now c.args.node _ [] inside)
    c.in_ok-put_each.ensures)
    c.visit_below-visit.ensures (omega (arith, c.if-at-len.false, c.len.ensures)) refl
