use Rattle.std.proofs.Common.{◌≡◌, map, take}
use Rattle.class_rename.specs.Names.{names_in}
use Rattle.rename_map.specs.MappingOf.{field_line}
use Rattle.rename_map.proofs.mapping.field_lines.Given as goal

abbrev pub invariant-loop-field : goal.invariant-loop-field
invariant-loop-field l = l.lines ≡ map (field_line (names_in l.names)) (take l.field-index l.fields)
