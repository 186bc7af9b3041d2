use Rattle.std.proofs.Common.{◌≡◌, drop}
use Rattle.std.specs.List.{list_all}
use Rattle.type_verifier.specs.bodies.Seen.{environment_of}
use Rattle.type_verifier.specs.Walk.{fits_at}
use Rattle.type_verifier.proofs.walk.fits_all.Given as goal

abbrev pub invariant-loop-to : goal.invariant-loop-to
invariant-loop-to l = list_all (fits_at (environment_of l.env) l.frame) (drop l.to-index l.targets)
    ≡ list_all (fits_at (environment_of l.env) l.frame) l.targets
