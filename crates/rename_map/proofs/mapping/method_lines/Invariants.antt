use Rattle.std.proofs.Common.{◌≡◌, map, take}
use Rattle.class_rename.specs.Names.{names_in}
use Rattle.rename_map.specs.MappingOf.{method_line}
use Rattle.rename_map.proofs.mapping.method_lines.Given as goal

abbrev pub invariant-loop-method : goal.invariant-loop-method
invariant-loop-method l = l.told ≡ map (method_line (names_in l.names) l.lines) (take l.method-index l.methods)
