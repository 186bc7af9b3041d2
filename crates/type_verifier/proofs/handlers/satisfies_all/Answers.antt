-- Answers of `satisfies_all`: what its calls ask for, and what it promises.
use Rattle.type_verifier.specs.bodies.Seen.{environment_of}
use Rattle.type_verifier.proofs.Asking.{uncovered_holds}
use Rattle.type_verifier.proofs.handlers.satisfies_all.Goals as goal

pub returns-then-not-is_covered : goal.returns-then-not-is_covered
returns-then-not-is_covered c =
    uncovered_holds (environment_of c.args.env.now) c.args.at c.args.frame.now
    (c.is_covered.ensures c.if-not-is_covered.true)
