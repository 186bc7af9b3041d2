-- Answers of `one_config`: what its calls ask for, and what it promises.
use Rattle.command_steps.proofs.OneConfig.{one_config}
use Rattle.command_steps.proofs.laws.one_config.Goals as goal

pub returns : goal.returns
returns c = one_config
