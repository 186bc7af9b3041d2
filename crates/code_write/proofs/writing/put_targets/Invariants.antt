use Rattle.std.proofs.Common.{◌≡◌, [], ◌++◌, map, take}
use Rattle.std.specs.Prelude.{slice_index}
use Rattle.std.specs.Int.{w32, to_be_bytes}
use Rattle.std.specs.List.{flat_map}
use Rattle.class_model.specs.CanonicalCode.{far}
use Rattle.code_write.proofs.writing.put_targets.Given as goal

abbrev pub invariant-loop-to : goal.invariant-loop-to
invariant-loop-to l = l.out.items
    ≡ l.initial.out.items ++ flat_map (to_be_bytes w32)
    (map (far [] (slice_index l.places) l.at) (take l.to-index l.cases))
