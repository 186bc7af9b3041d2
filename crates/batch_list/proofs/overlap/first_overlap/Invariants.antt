use Rattle.std.proofs.Common.{◌≡◌, take, drop}
use Rattle.batch_list.specs.Overlap.{first_behind, first_overlap}
use Rattle.batch_list.proofs.overlap.first_overlap.Given as goal

abbrev pub invariant-loop-at : goal.invariant-loop-at
invariant-loop-at l = first_behind l.list (take l.at l.jobs) (drop l.at l.jobs) ≡ first_overlap l.list l.jobs
