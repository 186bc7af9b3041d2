use Rattle.std.proofs.Common.{◌≡◌, take}
use Rattle.keep_match.specs.bodies.AsFixing.{as_fixings}
use Rattle.keep_match.proofs.fixed.as_fixings.Given as goal

abbrev pub invariant-loop-keep : goal.invariant-loop-keep
invariant-loop-keep l = l.copies ≡ as_fixings l.what (take l.keep-index l.keeps)
