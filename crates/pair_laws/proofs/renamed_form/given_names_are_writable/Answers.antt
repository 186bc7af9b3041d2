-- Answers of `given_names_are_writable`: what its calls ask for, and what it promises.
use Rattle.pair_laws.proofs.RenamedForm.GivenWritable.{given_writable}
use Rattle.pair_laws.proofs.renamed_form.given_names_are_writable.Goals as goal

pub returns : goal.returns
returns c = given_writable
