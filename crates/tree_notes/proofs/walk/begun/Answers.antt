-- Answers of `begun`: what its calls ask for, and what it promises.
use Rattle.tree_notes.proofs.Walked.{begins}
use Rattle.tree_notes.proofs.walk.begun.Goals as goal

pub returns : goal.returns
returns c parents keys = begins parents keys _ c.in_ok-visits.ensures c.in_ok-changes.ensures
