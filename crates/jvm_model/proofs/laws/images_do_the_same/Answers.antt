-- Answers of `images_do_the_same`: what its calls ask for, and what it promises.
use Rattle.jvm_model.proofs.Side.{mapped_same, mapped_steps}
use Rattle.jvm_model.proofs.laws.images_do_the_same.Goals as goal

pub returns : goal.returns
returns c = record { same = mapped_same; steps = mapped_steps }
