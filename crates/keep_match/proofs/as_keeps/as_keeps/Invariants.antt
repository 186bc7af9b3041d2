use Rattle.std.proofs.Common.{◌≡◌, take}
use Rattle.keep_match.specs.bodies.AsKeeps.{as_keeps}
use Rattle.keep_match.proofs.as_keeps.as_keeps.Given as goal

abbrev pub invariant-loop-keep : goal.invariant-loop-keep
invariant-loop-keep l = l.copies ≡ as_keeps (take l.keep-index l.keeps)
