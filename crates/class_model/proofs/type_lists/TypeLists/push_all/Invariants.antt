use Rattle.std.proofs.Common.{◌≡◌, ◌++◌}
use Rattle.std.specs.Vec.Iter.{into_iter_items}
use Rattle.class_model.specs.bodies.TypeLists.{types_in, Grows, IsHeld}
use Rattle.class_model.proofs.type_lists.TypeLists.push_all.Given as goal

abbrev pub invariant-loop-ty : goal.invariant-loop-ty
invariant-loop-ty l = record {
  grows : Grows l.fn.self l.self;
  held : IsHeld l.self l.list;
  types : types_in l.self l.list ++ into_iter_items l.ty-iterator ≡ l.fn.types;
}
