use Rattle.std.proofs.Common.{◌≡◌}
use Rattle.class_model.specs.Frames.{cut_tops}
use Rattle.class_model.specs.bodies.TypeLists.{types_in, IsHeld}
use Rattle.class_model.proofs.type_lists.TypeLists.without_tops.Given as goal

abbrev pub invariant-loop-cut : goal.invariant-loop-cut
invariant-loop-cut l = record {
  held : IsHeld l.self l.cut;
  same : cut_tops (types_in l.self l.cut) ≡ cut_tops (types_in l.self l.fn.list);
}

abbrev pub decreases-loop-cut : goal.decreases-loop-cut
decreases-loop-cut l = l.cut.len
