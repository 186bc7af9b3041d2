use Rattle.std.proofs.Common.{◌≡◌, take}
use Rattle.std.specs.List.{flat_map}
use Rattle.link_check.specs.Profile.{least, frame_kinds}
use Rattle.link_check.proofs.rules.instructions.frames_kind.Given as goal

abbrev pub invariant-loop-at : goal.invariant-loop-at
invariant-loop-at l = l.kind ≡ least (flat_map (frame_kinds l.set l.number) (take l.at l.frames))
