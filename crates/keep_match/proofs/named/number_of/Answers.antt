-- Answers of `number_of`: what its calls ask for, and what it promises.
use Rattle.std.proofs.Common.{None, Some, rules, sym}
use Rattle.keep_match.proofs.NameLaw.{number_is}
use Rattle.keep_match.proofs.named.number_of.Goals as goal

pub returns-in_err-number : goal.returns-in_err-number
returns-in_err-number c =
    let h = number_is c.args.set.now c.args.names.now c.args.name.now c.requires None
    (sym c.in_err-number.ensures.found) in
    search rules

pub returns : goal.returns
returns c =
    number_is c.args.set.now c.args.names.now c.args.name.now c.requires (Some c.in_ok-number.number)
    (sym c.in_ok-number.ensures.found)
