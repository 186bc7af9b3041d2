use Rattle.std.proofs.Common.{◌≡◌, drop, map}
use Rattle.std.specs.List.{list_all}
use Rattle.class_model.specs.declared.op.Case.{Case}
use Rattle.type_verifier.specs.bodies.Seen.{environment_of}
use Rattle.type_verifier.specs.Walk.{fits_at}
use Rattle.type_verifier.proofs.walk.fits_cases.Given as goal

abbrev pub invariant-loop-case : goal.invariant-loop-case
invariant-loop-case l =
    list_all (fits_at (environment_of l.env) l.frame) (map (λ (c : Case). c.to) (drop l.case-index l.cases))
    ≡ list_all (fits_at (environment_of l.env) l.frame) (map (λ (c : Case). c.to) l.cases)
