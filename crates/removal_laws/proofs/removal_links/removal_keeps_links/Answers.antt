-- Answers of `removal_keeps_links`: what its calls ask for, and what it promises.
use Rattle.removal_laws.proofs.RemovalLinks.Left.{links_left}
use Rattle.removal_laws.proofs.removal_links.removal_keeps_links.Goals as goal

pub returns : goal.returns
returns c = links_left
