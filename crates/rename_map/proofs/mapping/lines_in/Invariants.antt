use Rattle.std.proofs.Common.{◌≡◌, filter_map, take}
use Rattle.class_model.specs.declared.code.Ins.{Ins}
use Rattle.rename_map.specs.MappingOf.{range_of}
use Rattle.rename_map.proofs.mapping.lines_in.Given as goal

abbrev pub invariant-loop-instruction : goal.invariant-loop-instruction
invariant-loop-instruction l = l.range
    ≡ range_of (filter_map (λ (i : Ins). i.line) (take l.instruction-index l.code.ins))
