use Rattle.std.proofs.Common.{◌≡◌, ◌++◌}
use Rattle.pass_const.specs.Folding.{acts_to}
use Rattle.pass_const.proofs.folds.push_folds.Given as goal

abbrev pub invariant-loop-target : goal.invariant-loop-target
invariant-loop-target l = (l.acts.items ≡ l.fn.acts.items ++ acts_to l.targets l.at)
    × (l.at ≡ l.target-index)
