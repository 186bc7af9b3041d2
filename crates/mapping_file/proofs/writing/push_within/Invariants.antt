use Rattle.std.proofs.Common.{take}
use Rattle.std.specs.List.{flat_map}
use Rattle.mapping_file.specs.Mappings.{class_lines, ended_line}
use Rattle.mapping_file.specs.bodies.Pushed.{IsPushed}
use Rattle.mapping_file.proofs.writing.push_within.Given as goal

abbrev pub invariant-loop-class : goal.invariant-loop-class
invariant-loop-class l = IsPushed l.limit l.initial.out.items
    (flat_map (λ c. flat_map ended_line (class_lines c)) (take l.class-index l.map.classes)) l.out.items
