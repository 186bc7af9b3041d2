-- Answers of `kept_are_all_written`: what its calls ask for, and what it promises.
use Rattle.pair_laws.proofs.NamedForm.Written.{all_written}
use Rattle.pair_laws.proofs.named_form.kept_are_all_written.Goals as goal

pub returns : goal.returns
returns c = all_written
