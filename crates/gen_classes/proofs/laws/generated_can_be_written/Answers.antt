-- Answers of `generated_can_be_written`: what its calls ask for, and what it promises.
use Rattle.gen_classes.proofs.Written.{generated_written}
use Rattle.gen_classes.proofs.laws.generated_can_be_written.Goals as goal

pub returns : goal.returns
returns c = generated_written
