-- Answers of `FrameBuilder::push`: what its calls ask for, and what it promises.
use Rattle.class_model.proofs.Built.{view_pushed}
use Rattle.class_model.proofs.frame_builder.FrameBuilder.push.Goals as goal

pub returns : goal.returns
returns c = view_pushed c.self.inside c.args.self.now c.push_all.new.self c.push.new.self.items c.args.index
    c.in_ok-stack.stack c.args.stack c.self.invariant c.self.view_is c.in_ok-stack.ensures.grows
    c.in_ok-push.ensures.items c.in_ok-stack.ensures.types
