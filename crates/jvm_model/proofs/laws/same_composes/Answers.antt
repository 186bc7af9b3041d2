-- Answers of `same_composes`: what its calls ask for, and what it promises.
use Rattle.jvm_model.proofs.Compose.{same_refl, same_trans}
use Rattle.jvm_model.proofs.laws.same_composes.Goals as goal

pub returns : goal.returns
returns c = record { itself = same_refl; composes = same_trans }
