-- Answers of `check_clauses`: what its calls ask for, and what it promises.
use Rattle.pair_checker.proofs.InOrder.{matches_by}
use Rattle.pair_checker.proofs.matching.check_clauses.Goals as goal

pub returns : goal.returns
returns c = λ rules is.
    matches_by c.args.pair.now.input.now c.args.pair.now.output.now c.args.pair.now.mapping.now rules
    c.args.pair.now.witness.now c.test_clauses.result (c.test_clauses.ensures rules is)
