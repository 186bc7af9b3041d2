use Rattle.std.proofs.Common.{◌≡◌, length}
use Rattle.mark_workers.proofs.tasks.Tasks.share.Given as goal

abbrev pub invariant-loop-item : goal.invariant-loop-item
invariant-loop-item l = l.self.known.items ≡ l.fn.self.known.items

abbrev pub decreases-loop-item : goal.decreases-loop-item
decreases-loop-item l = length l.self.near.items
