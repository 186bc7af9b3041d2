-- Answers of `leave`: what its calls ask for, and what it promises.
use Rattle.std.proofs.Common.{◌<◌, ◌∙◌, [], length, get_or, None, arith, ap, refl, subst, sym}
use Rattle.std.proofs.lemmas.List.{get_or_default}
use Rattle.tree_notes.specs.bodies.Times.{changes_at, told_at}
use Rattle.tree_notes.specs.bodies.Walking.{ArePut}
use Rattle.tree_notes.proofs.Walked.{left}
use Rattle.tree_notes.proofs.walk.leave.Goals as goal

pub returns : goal.returns
returns c =
    let inside : c.in-Some.here.node < length c.args.keys.now = omega (arith, c.if-at-keys.false) in
    left c.args.parents.now c.args.keys.now c.args.walk.now c.requires c.in-Some-next_time.time c.in-Some-next_time.ensures _ c.in-Some.here
    c.in-Some-parent_of.node c.in-Some-visit_of.visit c.in-Some.is c.in-Some-parent_of.ensures
    (ap (λ l. get_or l c.in-Some-parent_of.node None) (sym c.as_slice.ensures.value) ∙ c.in-Some-visit_of.ensures.0)
    c.in-Some-visit_of.ensures.1 c.in-Some-visit_of.ensures.2
    (subst (λ l. ArePut c.in-Some-next_time.time
    (λ key. told_at c.in-Some-visit_of.visit (changes_at c.args.walk.now.nearest.changes.items key)) l
    c.args.walk.now.nearest.changes.items c.put_back.new.changes.items)
    (c.as_slice-2.ensures ∙ c.index-keys-at.is ∙ get_or_default c.args.keys.now c.in-Some.here.node _ [] inside)
    c.in_ok-put_back.ensures)
    refl
