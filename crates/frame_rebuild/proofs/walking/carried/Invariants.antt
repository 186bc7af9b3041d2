use Rattle.std.proofs.Common.{◌≡◌, ◌++◌, drop}
use Rattle.frame_rebuild.specs.Carried.{carried, moved_locals}
use Rattle.frame_rebuild.specs.bodies.Ends.{ends_from, locals_before, no_end}
use Rattle.frame_rebuild.specs.bodies.Fitting.{end_of, is_gone, is_led, stays}
use Rattle.frame_rebuild.proofs.walking.carried.Given as goal

abbrev pub invariant-loop-number : goal.invariant-loop-number
invariant-loop-number l = record {
  frames : l.built.frames ++ carried (stays l.moves) (is_led l.moves) (is_gone l.moves) (end_of l.moves)
      (drop l.number l.frames)
      ≡ carried (stays l.moves) (is_led l.moves) (is_gone l.moves) (end_of l.moves) l.frames;
  locals : l.built.locals
      ≡ moved_locals (stays l.moves) (is_gone l.moves) 0 (locals_before l.frames l.number);
  ends : l.ends.items ≡ ends_from (is_gone l.moves) no_end (locals_before l.frames l.number);
}
