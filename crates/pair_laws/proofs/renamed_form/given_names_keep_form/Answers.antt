-- Answers of `given_names_keep_form`: what its calls ask for, and what it promises.
use Rattle.pair_laws.proofs.RenamedForm.Given.{given_form}
use Rattle.pair_laws.proofs.renamed_form.given_names_keep_form.Goals as goal

pub returns : goal.returns
returns c = given_form
