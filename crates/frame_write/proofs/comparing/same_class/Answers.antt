-- Answers of `same_class`: what its calls ask for, and what it promises.
use Rattle.class_laws.proofs.Descriptors.{same_text}
use Rattle.frame_write.proofs.comparing.same_class.Goals as goal

pub returns : goal.returns
returns c = same_text c.are_equal.result c.args.one.now c.args.other.now c.are_equal.ensures
