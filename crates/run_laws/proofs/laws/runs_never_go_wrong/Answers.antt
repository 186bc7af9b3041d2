-- Answers of `runs_never_go_wrong`: what its calls ask for, and what it promises.
use Rattle.run_laws.proofs.Runs.{runs_right}
use Rattle.run_laws.proofs.laws.runs_never_go_wrong.Goals as goal

pub returns : goal.returns
returns c = runs_right
