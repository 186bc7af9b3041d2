-- Answers of `mark_class`: what its calls ask for, and what it promises.
use Rattle.std.proofs.Common.{◌∙◌, ◌∷◌, refl, sym, true}
use Rattle.keep_match.specs.bodies.Marks.{members_kept, or_each}
use Rattle.keep_match.proofs.MarkLaw.{class_kept, put_kept, put_none, row_lent, row_width}
use Rattle.keep_match.proofs.seeds.mark_class.Goals as goal

pub returns-then-not-is_kept : goal.returns-then-not-is_kept
returns-then-not-is_kept c =
    put_none c.args.set.now c.args.keep.now c.args.rows.now.items c.args.number c.class-class.result.now
    c.class-class.ensures.is (class_kept c.args.set.now c.args.number c.class-class.result.now c.args.keep.now
    c.requires.keeps (c.requires.named _ c.class-class.ensures.is) ∙ sym c.if-not-is_kept.ensures)

pub mark_items-requires-clause-width : goal.mark_items-requires-clause-width
mark_items-requires-clause-width c =
    row_width c.args.set.now c.args.rows.now.items c.args.number c.class-class.result.now c.index_mut.result.now
    c.requires.rows c.requires.there c.class-class.ensures.is c.index_mut.ensures.value

pub returns : goal.returns
returns c =
    let row = row_lent c.args.set.now c.args.rows.now.items c.args.number c.index_mut.result.now c.requires.rows
    c.requires.there c.index_mut.ensures.value in
    put_kept c.args.set.now c.args.keep.now c.args.rows.now.items _ c.args.number c.class-class.result.now
    c.mark_items.new.row c.class-class.ensures.is (class_kept c.args.set.now c.args.number c.class-class.result.now
    c.args.keep.now c.requires.keeps (c.requires.named _ c.class-class.ensures.is) ∙ sym c.if-not-is_kept.ensures) refl
    (c.mark_items.ensures ∙ (λ i. or_each (row i) (true ∷ members_kept (c.as_slice-members.ensures i)
    c.class-class.result.now)))
