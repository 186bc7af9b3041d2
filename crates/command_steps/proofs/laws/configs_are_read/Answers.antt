-- Answers of `configs_are_read`: what its calls ask for, and what it promises.
use Rattle.command_steps.proofs.OneConfig.{reads}
use Rattle.command_steps.proofs.laws.configs_are_read.Goals as goal

pub returns : goal.returns
returns c = reads
