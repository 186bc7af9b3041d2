-- Answers of `same_cases`: what its calls ask for, and what it promises.
use Rattle.std.proofs.Common.{rules}
use Rattle.class_model.proofs.Cases.{cases_Decides}
use Rattle.class_model.proofs.same.same_cases.Goals as goal

pub returns : goal.returns
returns c = let h = cases_Decides c.args.left.now c.args.right.now in search rules
