use Rattle.std.proofs.Common.{◌≡◌, ◌++◌}
use Rattle.std.specs.Vec.Iter.{into_iter_items}
use Rattle.class_model.proofs.frame_builder.FrameBuilder.append.Given as goal

abbrev pub invariant-loop-ty : goal.invariant-loop-ty
invariant-loop-ty l = record {
  frames : l.self.frames ≡ l.fn.self.frames;
  locals : l.self.locals ++ into_iter_items l.ty-iterator ≡ l.fn.self.locals ++ l.fn.types;
}
