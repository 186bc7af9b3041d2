use Rattle.std.proofs.Common.{◌≡◌, ◌<◌, ℕ, get_or, false}
use Rattle.type_verifier.specs.bodies.Asked.{handler_at}
use Rattle.type_verifier.specs.Walk.{covers}
use Rattle.type_verifier.proofs.handlers.is_covered.Given as goal

abbrev pub invariant-loop-number : goal.invariant-loop-number
invariant-loop-number l =
    (i : ℕ) → i < l.number-index → covers l.at (handler_at l.env.code.now (get_or l.places.asked.items i 0)) ≡ false
