-- Answers of `told_is_apart`: what its calls ask for, and what it promises.
use Rattle.pair_laws.proofs.RenamedForm.Apart.{kept_apart}
use Rattle.pair_laws.proofs.renamed_form.told_is_apart.Goals as goal

pub returns : goal.returns
returns c = λ names known c form formed told. kept_apart names form known c formed told
