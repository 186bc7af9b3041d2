-- Answers of `new_names_stay_apart`: what its calls ask for, and what it promises.
use Rattle.pair_laws.proofs.OwnNames.Named.{keep_form, stay_apart}
use Rattle.pair_laws.proofs.own_names.new_names_stay_apart.Goals as goal

pub returns : goal.returns
returns c = record { form = keep_form; apart = stay_apart }
