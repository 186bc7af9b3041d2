-- Answers of `same_steps_compose`: what its calls ask for, and what it promises.
use Rattle.jvm_model.proofs.Compose.{steps_refl, steps_same, steps_trans}
use Rattle.jvm_model.proofs.laws.same_steps_compose.Goals as goal

pub returns : goal.returns
returns c = record { itself = steps_refl; composes = steps_trans; same = steps_same }
