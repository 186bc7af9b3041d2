use Rattle.std.proofs.Common.{◌≡◌, map, take}
use Rattle.class_rename.specs.Names.{names_in}
use Rattle.class_rename.specs.Renamed.{renamed_frame, renamed_vtype}
use Rattle.class_rename.specs.bodies.Cut.{locals_before}
use Rattle.class_rename.proofs.frames.in_turn.Given as goal

abbrev pub invariant-loop-number : goal.invariant-loop-number
invariant-loop-number l = l.built ≡ record {
  frames = map (renamed_frame (names_in l.names)) (take l.number l.frames);
  locals = map (renamed_vtype (names_in l.names)) (locals_before l.frames l.number);
}
