use Rattle.mark_core.specs.Marks.{needs_of}
use Rattle.why_kept.specs.bodies.Noting.{AreNoted, is_among, note_if, noted_at}
use Rattle.why_kept.specs.declared.reasons.By.TheVariants.{Need}
use Rattle.why_kept.proofs.sources.note_needs.Given as goal

abbrev pub invariant-loop-need : goal.invariant-loop-need
invariant-loop-need l = AreNoted l.sys.n
    (λ x. note_if (is_among l.sys l.levels l.item (needs_of l.sys l.item) l.need-index x) (Need l.item)
    (noted_at l.fn.sources.items x)) l.sources.items
