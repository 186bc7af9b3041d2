use Rattle.std.proofs.Common.{◌≡◌, map, take}
use Rattle.class_rename.specs.Names.{names_in}
use Rattle.class_rename.specs.Renamed.{renamed_frame}
use Rattle.class_rename.proofs.frames.one_by_one.Given as goal

abbrev pub invariant-loop-number : goal.invariant-loop-number
invariant-loop-number l = l.new ≡ map (renamed_frame (names_in l.names)) (take l.number l.frames)
