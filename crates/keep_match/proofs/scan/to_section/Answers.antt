-- Answers of `to_section`: what its calls ask for, and what it promises.
use Rattle.keep_match.proofs.Scanning.{match_further, to_section_fails, to_section_found}
use Rattle.keep_match.proofs.scan.to_section.Goals as goal

pub returns : goal.returns
returns c = match_further _ _ _ _ _ c.behind_parts.ensures.found
    (λ fails. to_section_fails _ _ _ _ c.in_ok-block.ensures.found fails)
    (λ next k. to_section_found _ _ _ _ _ _ c.in_ok-block.ensures.found k)
