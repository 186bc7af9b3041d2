-- The laws of steps and runs.
use Rattle.std.proofs.Common.{⊎_elim}
use Rattle.fit_laws.specs.Laws.{NeverWrong, StepsFit, WholeAlike}
use Rattle.fit_laws.proofs.Families.{instructions_fit}
use Rattle.fit_laws.proofs.Stepping.{never_wrong, step_fits}

pub steps_fit : StepsFit
steps_fit classes sound s x = step_fits classes sound (instructions_fit classes sound) s x

pub runs_go_right : NeverWrong
runs_go_right classes sound s x n = never_wrong classes sound (instructions_fit classes sound) s x n

pub whole_alike : WholeAlike
whole_alike v w names a b same never = record {
  as_far = λ n. same.as_far n (never n);
  no_further = λ k. ⊎_elim (λ c. c) (λ e. absurd (never e.0 e.1)) (same.no_further k);
}
