-- Answers of `renamed_is_well_formed`: what its calls ask for, and what it promises.
use Rattle.pair_laws.proofs.RenamedForm.Formed.{counts_fit, formed}
use Rattle.pair_laws.proofs.renamed_form.renamed_is_well_formed.Goals as goal

pub returns : goal.returns
returns c = λ names k form apart h few. (formed names form k apart h, counts_fit names form k h few)
