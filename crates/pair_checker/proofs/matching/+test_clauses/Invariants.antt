use Rattle.std.proofs.Common.{length}
use Rattle.pair_checker.proofs.matching.+test_clauses.Given as goal

abbrev pub decreases-test_clauses : goal.decreases-test_clauses
decreases-test_clauses l = length l.clauses.now
