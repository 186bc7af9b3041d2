use Rattle.std.proofs.Common.{◌≡◌, ◌-◌, length, take}
use Rattle.class_model.proofs.frame_builder.FrameBuilder.chop.Given as goal

abbrev pub invariant-loop : goal.invariant-loop
invariant-loop l = record {
  frames : l.self.frames ≡ l.fn.self.frames;
  locals : l.self.locals ≡ take (length l.fn.self.locals - l.counter) l.fn.self.locals;
}
