use Rattle.std.proofs.Common.{◌≡◌, length}
use Rattle.keep_rules.specs.Paths.{any_meet}
use Rattle.keep_rules.proofs.paths.any_meet.Given as goal

abbrev pub invariant-loop-rest : goal.invariant-loop-rest
invariant-loop-rest l = any_meet l.rest ≡ any_meet l.files

abbrev pub decreases-loop-rest : goal.decreases-loop-rest
decreases-loop-rest l = length l.rest
