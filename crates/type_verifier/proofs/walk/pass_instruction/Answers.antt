-- Answers of `pass_instruction`: what its calls ask for, and what it promises.
use Rattle.std.proofs.Common.{sym, subst}
use Rattle.type_verifier.specs.bodies.Seen.{environment_of}
use Rattle.type_verifier.specs.bodies.Since.{IsSince}
use Rattle.type_verifier.proofs.Changing.{since_same}
use Rattle.type_verifier.proofs.walk.pass_instruction.Goals as goal

pub pass-requires-clause-since : goal.pass-requires-clause-since
pass-requires-clause-since c =
    subst (λ since. IsSince (environment_of c.args.env.now) c.args.at since c.arrive.new.frame)
    (sym c.since_there.ensures)
    (since_same (environment_of c.args.env.now) c.args.at c.args.since c.in_ok-same.same c.args.frame.now
    c.arrive.new.frame
    c.requires.since c.in_ok-same.ensures.same)
