-- Answers of `right_acts_keep_same`: what its calls ask for, and what it promises.
use Rattle.edit_premises.specs.Changes.{Changed, Together}
use Rattle.edit_premises.proofs.Changes.{becomes_same, changed_premise}
use Rattle.edit_laws.proofs.Acting.{acted_becomes}
use Rattle.edit_laws.proofs.passes.right_acts_keep_same.Goals as goal

pub returns : goal.returns
returns g c = λ v w shape codes.
    becomes_same Changed Together changed_premise 2 v w shape
    (λ m. acted_becomes g.P.CodePass.applied g.P.CodePass.right g.met.P.CodePass.changes
    (v.code m) (w.code m) (codes m))
