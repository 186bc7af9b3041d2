use Rattle.std.proofs.Common.{◌≡◌, drop}
use Rattle.std.specs.Prelude.{not, ◌||◌}
use Rattle.std.specs.List.{list_all}
use Rattle.type_verifier.specs.bodies.Seen.{environment_of}
use Rattle.type_verifier.specs.Walk.{covers, satisfies}
use Rattle.type_verifier.proofs.handlers.satisfies_all.Given as goal

abbrev pub invariant-loop-handler : goal.invariant-loop-handler
invariant-loop-handler l =
    list_all (λ h. not (covers l.at h) || satisfies (environment_of l.env) l.frame h)
    (drop l.handler-index l.env.code.now.handlers)
    ≡ list_all (λ h. not (covers l.at h) || satisfies (environment_of l.env) l.frame h) l.env.code.now.handlers
