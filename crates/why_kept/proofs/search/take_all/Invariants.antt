use Rattle.std.proofs.Common.{◌≡◌, ◌≤◌, ◌++◌, length}
use Rattle.why_kept.specs.bodies.Searching.{ArePresent, IsOpen, left}
use Rattle.why_kept.proofs.search.take_all.Given as goal

abbrev pub invariant-loop-item : goal.invariant-loop-item
invariant-loop-item l = record {
  opened : IsOpen l.sys l.level (l.present.items ++ l.search.found.items) l.search;
  present : ArePresent l.sys l.level l.present.items l.search;
  fewer : length l.present.items ≤ length l.fn.present.items;
  left : left l.sys l.search ≡ left l.sys l.fn.search;
}

abbrev pub decreases-loop-item : goal.decreases-loop-item
decreases-loop-item l = length l.present.items
