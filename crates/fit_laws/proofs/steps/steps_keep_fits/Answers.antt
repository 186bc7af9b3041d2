-- Answers of `steps_keep_fits`: what its calls ask for, and what it promises.
use Rattle.fit_laws.proofs.Families.{instructions_fit}
use Rattle.fit_laws.proofs.Runs.{runs_go_right, steps_fit, whole_alike}
use Rattle.fit_laws.proofs.steps.steps_keep_fits.Goals as goal

pub returns : goal.returns
returns c = record { instructions = instructions_fit; steps = steps_fit; never = runs_go_right; whole = whole_alike }
