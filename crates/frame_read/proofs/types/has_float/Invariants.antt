use Rattle.std.proofs.Common.{◌≡◌, map, drop}
use Rattle.std.specs.List.{list_any}
use Rattle.class_model.specs.Frames.{is_float_info}
use Rattle.frame_read.specs.bodies.Rows.{info_of}
use Rattle.frame_read.proofs.types.has_float.Given as goal

abbrev pub invariant-loop-info : goal.invariant-loop-info
invariant-loop-info l = list_any is_float_info (map info_of (drop l.info-index l.infos))
    ≡ list_any is_float_info (map info_of l.infos)
