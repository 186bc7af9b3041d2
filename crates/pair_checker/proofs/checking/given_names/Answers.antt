-- Answers of `given_names`: what its calls ask for, and what it promises.
use Rattle.std.proofs.Common.{map, arith}
use Rattle.new_names.specs.NewNames.{names_given}
use Rattle.pair_clauses.proofs.Zipped.{beyond}
use Rattle.pair_checker.proofs.Mapped.{mapped_all, mapped_on}
use Rattle.pair_checker.proofs.checking.given_names.Goals as goal

pub loop-number-preserved : goal.loop-number-preserved
loop-number-preserved c =
    let f = names_given c.args.names.now in
    mapped_on f c.args.input.now c.loop-number.number (map f c.args.input.now) c.class.result.now c.loop-number.given
    c.push.new.self c.in_ok-names_given.field-0 c.class.ensures.is c.in_ok-names_given.ensures c.in_ok-push.ensures
    c.loop-number.invariant

pub returns : goal.returns
returns c =
    let f = names_given c.args.names.now in
    mapped_all f c.args.input.now c.loop-number.number (map f c.args.input.now) c.loop-number.given
    (beyond c.args.input.now _ (omega arith)) c.loop-number.invariant
