-- Answers of `law_local`: what its calls ask for, and what it promises.
use Rattle.std.proofs.Common.{refl}
use Rattle.jvm_model.proofs.Codes.{pass_same}
use Rattle.edit_laws.specs.Replaced.{replaced}
use Rattle.edit_laws.proofs.Replacing.{replaced_stands}
use Rattle.edit_laws.proofs.codes.law_local.Goals as goal

pub returns : goal.returns
returns g c = λ v m old new has put.
    pass_same g.P.Pass.puts g.P.Pass.related g.met.P.Pass.premise v (replaced v m new) refl
    (replaced_stands g.P.Pass.puts v m old new has put)
