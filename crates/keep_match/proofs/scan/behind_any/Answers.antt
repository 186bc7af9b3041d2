-- Answers of `behind_any`: what its calls ask for, and what it promises.
use Rattle.std.proofs.Common.{rules}
use Rattle.keep_match.proofs.Scanning.{passed_any_dot, passed_any_end, passed_any_found}
use Rattle.keep_match.proofs.scan.behind_any.Goals as goal

pub returns-in-Some-clause-found : goal.returns-in-Some-clause-found
returns-in-Some-clause-found c = passed_any_found _ _ _ _ _ c.loop-next.invariant.1 c.in-Some.ensures.found

pub returns-in_err-left-clause-found : goal.returns-in_err-left-clause-found
returns-in_err-left-clause-found c =
    let f = passed_any_end _ _ _ c.loop-next.invariant.1 c.in_err-left.ensures.found c.in_default.ensures.found in
    search rules

pub loop-next-preserved : goal.loop-next-preserved
loop-next-preserved c = (
  search rules,
  passed_any_dot _ _ _ _ c.loop-next.invariant.1 c.in_ok-left.ensures.found c.in_default.ensures.found,
)
