use Rattle.std.proofs.Common.{◌≡◌, map, take}
use Rattle.std.specs.Option.{is_some}
use Rattle.pass_const.proofs.folds.folded.Given as goal

abbrev pub invariant-loop-target : goal.invariant-loop-target
invariant-loop-target l = l.folded.items ≡ map is_some (take l.target-index l.targets)
