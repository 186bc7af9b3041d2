-- Answers of `marks_of`: what its calls ask for, and what it promises.
use Rattle.std.proofs.Common.{rules, ◌≡◌, ℕ, List, false, true, get_or, take, ap, sym, subst, ◌∙◌}
use Rattle.std.specs.Prelude.{replicate}
use Rattle.std.proofs.Math.ListN.{set}
use Rattle.std.proofs.lemmas.List.{take_more}
use Rattle.list_texts.specs.bodies.Places.{AreMarksOf}
use Rattle.list_texts.proofs.Marking.{marks_more, marks_none}
use Rattle.list_texts.proofs.seeds.marks_of.Goals as goal

pub loop-item-init : goal.loop-item-init
loop-item-init c =
    let are : c.in_ok-marks.marks.items ≡ replicate c.item_count.result false = search rules in
    marks_none c.args.set.now c.in_ok-marks.marks.items
    (are ∙ ap (λ (n : ℕ). replicate n false) c.item_count.ensures)

pub loop-item-preserved : goal.loop-item-preserved
loop-item-preserved c =
    let items = c.args.items.now in
    let i : ℕ = c.loop-item.item-index in
    let y : ℕ = get_or items i 0 in
    subst (λ (t : List ℕ). AreMarksOf c.args.set.now t (set c.loop-item.marks.items y true))
    (sym (take_more items i 0 c.loop-item-test.true))
    (marks_more c.args.set.now (take i items) c.loop-item.marks.items y (c.requires i 0 c.loop-item-test.true)
    c.loop-item.invariant)
