-- Answers of `config_in`: what its calls ask for, and what it promises.
use Rattle.command_steps.proofs.OneConfig.{config_found}
use Rattle.command_steps.proofs.config.config_in.Goals as goal

pub returns-in-Ok : goal.returns-in-Ok
returns-in-Ok c = config_found c.args.bytes.now c.args.witness.now c.in-Ok.rules c.in-Ok.ensures
