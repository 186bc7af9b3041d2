-- Answers of `on_answer`: what its calls ask for, and what it promises.
use Rattle.run_machine.proofs.answers.on_answer.Goals as goal

pub returns-in-Raises : goal.returns-in-Raises
returns-in-Raises c = rw c.in-Raises.is c.raise_at.ensures

pub returns-in-Begins : goal.returns-in-Begins
returns-in-Begins c = rw c.in-Begins.is c.begin_method.ensures
