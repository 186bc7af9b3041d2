use Rattle.std.proofs.Common.{flat_map, take}
use Rattle.rename_map.specs.Fixed.{type_classes}
use Rattle.jv_base.specs.Names.{is_text}
use Rattle.rename_map.specs.bodies.Adding.{Adds}
use Rattle.rename_map.proofs.telling.add_arguments.Given as goal

abbrev pub invariant-loop-ty : goal.invariant-loop-ty
invariant-loop-ty l = Adds is_text l.fn.names (flat_map type_classes (take l.ty-index l.types)) l.names
