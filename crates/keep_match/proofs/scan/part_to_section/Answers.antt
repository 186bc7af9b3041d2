-- Answers of `part_to_section`: what its calls ask for, and what it promises.
use Rattle.keep_match.proofs.Scanning.{match_further, part_section_fails, part_section_found}
use Rattle.keep_match.proofs.scan.part_to_section.Goals as goal

pub returns-clause-found : goal.returns-clause-found
returns-clause-found c = match_further _ _ _ _ _ c.behind_parts.ensures.found
    (λ fails. part_section_fails _ _ _ _ c.in_ok-block.ensures.found fails)
    (λ next k. part_section_found _ _ _ _ _ _ c.in_ok-block.ensures.found k)
