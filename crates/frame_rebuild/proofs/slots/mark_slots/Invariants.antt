use Rattle.std.proofs.Common.{◌≡◌, drop}
use Rattle.frame_rebuild.specs.bodies.Slots.{with_slots}
use Rattle.frame_rebuild.proofs.slots.mark_slots.Given as goal

abbrev pub invariant-loop-act : goal.invariant-loop-act
invariant-loop-act l =
    with_slots l.code (drop l.act-index l.acts) l.marks.items
    ≡ with_slots l.code l.acts l.fn.marks.items
