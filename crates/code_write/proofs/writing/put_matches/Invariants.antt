use Rattle.std.proofs.Common.{◌≡◌, ◌++◌, map, take}
use Rattle.std.specs.Prelude.{slice_index}
use Rattle.std.specs.List.{flat_map}
use Rattle.class_model.specs.InstructionStructure.{match_offset}
use Rattle.code_write.specs.bodies.Coded.{match_of}
use Rattle.code_write.proofs.writing.put_matches.Given as goal

abbrev pub invariant-loop-case : goal.invariant-loop-case
invariant-loop-case l = l.out.items
    ≡ l.initial.out.items ++ flat_map match_offset
    (map (match_of (slice_index l.places) l.at) (take l.case-index l.cases))
