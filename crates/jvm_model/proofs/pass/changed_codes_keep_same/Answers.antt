-- Answers of `changed_codes_keep_same`: what its calls ask for, and what it promises.
use Rattle.jvm_model.proofs.Codes.{pass_same}
use Rattle.jvm_model.proofs.pass.changed_codes_keep_same.Goals as goal

pub returns : goal.returns
returns g c = pass_same g.P.Pass.puts g.P.Pass.related g.met.P.Pass.premise
