-- Answers of `edits_keep_same`: what its calls ask for, and what it promises.
use Rattle.edit_premises.proofs.Steps.{edited_same}
use Rattle.edit_laws.proofs.passes.edits_keep_same.Goals as goal

pub returns : goal.returns
returns c = edited_same
