-- Answers of `behind_parts`: what its calls ask for, and what it promises.
use Rattle.std.proofs.Common.{arith}
use Rattle.keep_match.proofs.Scanning.{block_more}
use Rattle.keep_match.specs.bodies.Scan.{pieces_at}
use Rattle.keep_match.proofs.scan.behind_parts.Goals as goal

pub loop-rest-preserved : goal.loop-rest-preserved
loop-rest-preserved c = (
  block_more _ (pieces_at c.loop-rest.place) _ _ _ _ _ c.in-Some-Part-default.field-0-0 c.loop-rest.invariant.0
      c.in-Some-Part-default.ensures.found c.in-Some-Part-default.field-0-0-is c.in_ok-place.ensures.found,
  omega (arith, c.in-Some-Part-default.ensures.shorter, c.in_ok-place.ensures.shorter),
)
