use Rattle.std.proofs.Common.{◌≡◌, ◌≤◌, ◌+◌, ◌++◌}
use Rattle.std.specs.Vec.Iter.{into_iter_items}
use Rattle.class_model.specs.Frames.{words_of_types}
use Rattle.frame_rebuild.specs.Carried.{moved_locals}
use Rattle.frame_rebuild.specs.bodies.Ends.{ends_from}
use Rattle.frame_rebuild.specs.bodies.Fitting.{is_gone, stays}
use Rattle.frame_rebuild.proofs.locals.moved_locals.Given as goal

abbrev pub invariant-loop-ty : goal.invariant-loop-ty
invariant-loop-ty l = record {
  moved : l.moved ++ moved_locals (stays l.moves) (is_gone l.moves) l.end.slot (into_iter_items l.ty-iterator)
      ≡ moved_locals (stays l.moves) (is_gone l.moves) l.fn.from.slot l.fn.types;
  ends : l.ends.items ++ ends_from (is_gone l.moves) l.end (into_iter_items l.ty-iterator)
      ≡ l.fn.ends.items ++ ends_from (is_gone l.moves) l.fn.from l.fn.types;
  items : l.end.items ≤ l.end.slot;
  few : l.end.slot + words_of_types (into_iter_items l.ty-iterator) ≤ 65535;
}
