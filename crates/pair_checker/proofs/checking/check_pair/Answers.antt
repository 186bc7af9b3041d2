-- Answers of `check_pair`: what its calls ask for, and what it promises.
use Rattle.rule_system.proofs.SystemDue.{due_is}
use Rattle.pair_checker.proofs.checking.check_pair.Goals as goal

pub check_required-requires-clause-required : goal.check_required-requires-clause-required
check_required-requires-clause-required c = due_is c.args.input.now c.args.rules.now c.in-Ok.sys c.in-Ok.ensures.exact
