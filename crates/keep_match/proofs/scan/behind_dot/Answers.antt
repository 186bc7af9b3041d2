-- Answers of `behind_dot`: what its calls ask for, and what it promises.
use Rattle.std.proofs.Common.{arith, rules}
use Rattle.keep_match.proofs.Scanning.{plain_one}
use Rattle.keep_match.proofs.scan.behind_dot.Goals as goal

pub loop-character-preserved : goal.loop-character-preserved
loop-character-preserved c = (
  search rules,
  plain_one _ _ _ c.in-Some.character c.loop-character.invariant.1 c.in-Some.ensures.found c.if-character-eq46.false,
  omega (arith, c.in-Some.ensures.shorter),
)
