use Rattle.std.proofs.Common.{◌≡◌}
use Rattle.mark_workers.proofs.tasks.Tasks.find.Given as goal

abbrev pub invariant-loop-other : goal.invariant-loop-other
invariant-loop-other l = l.self.known.items ≡ l.fn.self.known.items
