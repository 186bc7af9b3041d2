use Rattle.std.proofs.Common.{◌≡◌, ◌<◌, ℕ, get_or, true}
use Rattle.type_verifier.specs.bodies.Asked.{handler_at, satisfies_if_behind}
use Rattle.type_verifier.specs.bodies.Seen.{environment_of}
use Rattle.type_verifier.proofs.handlers.satisfies_behind.Given as goal

abbrev pub invariant-loop-number : goal.invariant-loop-number
invariant-loop-number l =
    (i : ℕ) → i < l.number-index
    → satisfies_if_behind (environment_of l.env) l.at l.frame
    (handler_at l.env.code.now (get_or l.places.asked.items i 0)) ≡ true
