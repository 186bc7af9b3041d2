use Rattle.std.proofs.Common.{◌≡◌, ◌++◌, map, take}
use Rattle.std.specs.List.{flat_map}
use Rattle.class_model.specs.Frames.{verification_type_info}
use Rattle.class_model.specs.CanonicalFrames.{type_info}
use Rattle.frame_write.proofs.writing.put_types.Given as goal

abbrev pub invariant-loop-ty : goal.invariant-loop-ty
invariant-loop-ty l =
    l.out.items ≡ l.initial.out.items ++ flat_map verification_type_info
    (map (type_info l.constants l.starts) (take l.ty-index l.types))
