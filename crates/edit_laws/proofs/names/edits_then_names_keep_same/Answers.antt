-- Answers of `edits_then_names_keep_same`: what its calls ask for, and what it promises.
use Rattle.jvm_model.specs.Same.{own_names}
use Rattle.jvm_model.proofs.Compose.{same_trans}
use Rattle.jvm_model.proofs.Side.{mapped_same}
use Rattle.edit_premises.proofs.Changes.{own_entries}
use Rattle.edit_premises.proofs.Steps.{edited_same}
use Rattle.edit_laws.proofs.names.edits_then_names_keep_same.Goals as goal

pub returns : goal.returns
returns c = λ m v edit w shape codes image entries kept.
    same_trans v edit w own_names m.names entries entries (own_entries entries)
    (edited_same v edit shape codes entries) (mapped_same m edit w image entries kept)
