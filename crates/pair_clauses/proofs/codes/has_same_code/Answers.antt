-- Answers of `has_same_code`: what its calls ask for, and what it promises.
use Rattle.std.proofs.Common.{ap}
use Rattle.std.specs.Option.{option_copied}
use Rattle.pair_clauses.proofs.Bodies.{both_bodies, no_bodies, ok_on}
use Rattle.pair_clauses.proofs.codes.has_same_code.Goals as goal

pub returns-in-Some-Some : goal.returns-in-Some-Some
returns-in-Some-Some c = ok_on c.is_same_code.result
    (both_bodies c.args.names.now c.args.filter.now (option_copied c.args.out) c.in-Some.out.now
    (ap option_copied c.in-Some.is)
    c.args.code.now c.in-Some-Some.code c.in-Some-Some.out c.in-Some-Some.is-0 c.in-Some-Some.is-1)
    c.is_same_code.ensures

pub returns-in-None-None : goal.returns-in-None-None
returns-in-None-None c =
    no_bodies c.args.names.now c.args.filter.now (option_copied c.args.out) c.in-Some.out.now
    (ap option_copied c.in-Some.is)
    c.args.code.now c.in-None-None.is-0 c.in-None-None.is-1
