-- Answers of `+test_clauses`: what its calls ask for, and what it promises.
use Rattle.pair_checker.proofs.InOrder.{tests_next}
use Rattle.pair_checker.proofs.matching.+test_clauses.Goals as goal

pub returns-in-None : goal.returns-in-None
returns-in-None t c = λ rules is.
    tests_next c.args.pair.now.input.now c.args.pair.now.output.now c.args.pair.now.mapping.now rules
    c.args.pair.now.witness.now c.args.clauses.now c.in_ok-place.field-0 c.test_clauses.result c.in-len1-up.len_at_least
    c.in-None.is (c.in_ok-place.ensures rules is) (c.test_clauses.ensures rules is)
