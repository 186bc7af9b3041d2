use Rattle.std.proofs.Common.{◌≡◌, map, take}
use Rattle.class_rename.specs.Names.{names_in}
use Rattle.rename_map.specs.MappingOf.{class_lines}
use Rattle.rename_map.proofs.mapping.mapping_of.Given as goal

abbrev pub invariant-loop-class : goal.invariant-loop-class
invariant-loop-class l = l.classes ≡ map (class_lines (names_in l.names) l.lines) (take l.class-index l.kept)
