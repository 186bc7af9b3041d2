-- Answers of `satisfies_if_behind`: what its calls ask for, and what it promises.
use Rattle.std.proofs.Common.{sym, ◌∙◌}
use Rattle.type_verifier.specs.bodies.Seen.{environment_of}
use Rattle.type_verifier.proofs.Asking.{known_numbered}
use Rattle.type_verifier.proofs.handlers.satisfies_if_behind.Goals as goal

pub fits_changed-requires-clause-known : goal.fits_changed-requires-clause-known
fits_changed-requires-clause-known c =
    known_numbered (environment_of c.args.env.now) c.args.at c.args.changed c.args.frame.now c.requires.since
    c.args.number
    c.index-handler.result.now c.index-handler.ensures (sym c.covers_behind.ensures ∙ c.if-covers_behind.true)
