-- Answers of `run_clinit`: what its calls ask for, and what it promises.
use Rattle.run_machine.proofs.initialising.run_clinit.Goals as goal

pub returns-in-None : goal.returns-in-None
returns-in-None c = rw c.in-None.is c.complete.ensures
