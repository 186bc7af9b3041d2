-- Answers of `kept_can_be_written`: what its calls ask for, and what it promises.
use Rattle.pair_laws.proofs.NamedForm.Written.{kept_writable}
use Rattle.pair_laws.proofs.named_form.kept_can_be_written.Goals as goal

pub returns : goal.returns
returns c = kept_writable
