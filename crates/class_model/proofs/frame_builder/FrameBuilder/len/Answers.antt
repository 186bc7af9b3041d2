-- Answers of `FrameBuilder::len`: what its calls ask for, and what it promises.
use Rattle.std.proofs.Common.{sym}
use Rattle.class_model.proofs.TypesAbove.{length-up_to}
use Rattle.class_model.proofs.frame_builder.FrameBuilder.len.Goals as goal

pub returns : goal.returns
returns c = rw (← c.self.view_is) (sym (length-up_to c.self.inside.lists c.self.inside.locals.len
    c.self.inside.locals.top))
