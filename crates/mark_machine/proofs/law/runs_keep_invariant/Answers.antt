-- Answers of `runs_keep_invariant`: what its calls ask for, and what it promises.
use Rattle.mark_machine.proofs.Runs.{reached, run_quiet, quiet_marks}
use Rattle.mark_machine.proofs.law.runs_keep_invariant.Goals as goal

pub returns-clause-kept : goal.returns-clause-kept
returns-clause-kept c = reached

pub returns-clause-within : goal.returns-clause-within
returns-clause-within c sys events t valid r x h = ((reached sys events t valid r).within x h).0

pub returns-clause-quiet : goal.returns-clause-quiet
returns-clause-quiet c sys events t valid r q = quiet_marks sys t (reached sys events t valid r) q

pub returns-clause-stays : goal.returns-clause-stays
returns-clause-stays c = run_quiet
