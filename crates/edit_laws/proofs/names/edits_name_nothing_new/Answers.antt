-- Answers of `edits_name_nothing_new`: what its calls ask for, and what it promises.
use Rattle.edit_laws.proofs.NamingLess.{edited_names_no_more}
use Rattle.edit_laws.proofs.names.edits_name_nothing_new.Goals as goal

pub returns : goal.returns
returns c = λ steps code. edited_names_no_more code steps
