use Rattle.std.proofs.Common.{◌≡◌, ◌≤◌, drop, length}
use mathlib.Core.List.{reverse}
use Rattle.frame_rebuild.specs.Carried.{next_place}
use Rattle.frame_rebuild.specs.bodies.Fitting.{end_of, is_led, stays}
use Rattle.frame_rebuild.specs.bodies.Marks.{marks_of}
use Rattle.frame_rebuild.proofs.marking.marks_of.Given as goal

abbrev pub invariant-loop-left : goal.invariant-loop-left
invariant-loop-left l = record {
  within : l.left ≤ length l.frames;
  next : l.next ≡ next_place (stays l.moves) (is_led l.moves) (end_of l.moves) (drop l.left l.frames);
  marks : l.marks.items
      ≡ reverse (marks_of (stays l.moves) (is_led l.moves) (end_of l.moves) (drop l.left l.frames));
}

abbrev pub decreases-loop-left : goal.decreases-loop-left
decreases-loop-left l = l.left
