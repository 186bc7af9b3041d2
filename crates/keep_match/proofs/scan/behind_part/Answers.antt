-- Answers of `behind_part`: what its calls ask for, and what it promises.
use Rattle.std.proofs.Common.{rules}
use Rattle.keep_match.proofs.scan.behind_part.Goals.{in_default-first_shown-via-in-Some-first_shown+else-character-ne46}
use Rattle.keep_match.proofs.scan.behind_part.Goals.{in_default-first_shown-via-in_default-first_shown}
use Rattle.keep_match.proofs.Scanning.{passed_found, passed_one, passed_to_dot, passed_to_end}
use Rattle.keep_match.proofs.scan.behind_part.Goals as goal

pub returns-in-Some-clause-found : goal.returns-in-Some-clause-found
returns-in-Some-clause-found c = passed_found _ _ _ _ _ c.loop-next.invariant.1 c.in-Some.ensures.found

pub loop-next-preserved : goal.loop-next-preserved
loop-next-preserved c = (
  search rules,
  passed_one _ _ _ _ c.in-Some-first_shown.character c.loop-next.invariant.1 c.in-Some-first_shown.ensures.found
      c.if-character-ne46.true c.in_default.ensures.found,
)

pub returns-in_default-first_shown-clause-found : goal.returns-in_default-first_shown-clause-found
returns-in_default-first_shown-clause-found c = elim c.in_default-first_shown.branch [
  | in_default-first_shown-via-in-Some-first_shown+else-character-ne46 w ↦
      passed_to_dot _ _ _ _ w.in-Some-first_shown.character c.loop-next.invariant.1 w.in-Some-first_shown.ensures.found
      w.if-character-ne46.false c.in_default.ensures.found
  | in_default-first_shown-via-in_default-first_shown w ↦
      passed_to_end _ _ _ c.loop-next.invariant.1 w.in_default-first_shown.ensures.found c.in_default.ensures.found
]
