use Rattle.std.proofs.Common.{◌≡◌, drop, Some}
use Rattle.type_verifier.specs.bodies.Changes.{flow}
use Rattle.type_verifier.specs.bodies.Noting.{AreFitting}
use Rattle.type_verifier.specs.bodies.Seen.{environment_of}
use Rattle.type_verifier.specs.bodies.Since.{IsSince}
use Rattle.type_verifier.specs.bodies.Walked.{walked}
use Rattle.type_verifier.proofs.walk.walk.Given as goal

abbrev pub invariant-loop-at : goal.invariant-loop-at
invariant-loop-at l = (walked (environment_of l.env) l.at (flow l.flows l.frame) (drop l.at l.env.code.now.ins)
    ≡ walked (environment_of l.env) 0 (Some l.fn.frame) l.env.code.now.ins)
    × IsSince (environment_of l.env) l.at l.since l.frame × AreFitting (environment_of l.env) l.at l.fitting
