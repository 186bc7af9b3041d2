-- Answers of `codes_that_become_others_keep_same`: what its calls ask for, and what it promises.
use Rattle.edit_premises.proofs.Changes.{becomes_same}
use Rattle.edit_laws.proofs.codes.codes_that_become_others_keep_same.Goals as goal

pub returns : goal.returns
returns g c = becomes_same g.P.Pass.puts g.P.Pass.related g.met.P.Pass.premise
