use Rattle.std.proofs.Common.{◌≡◌, take}
use Rattle.std.specs.List.{flat_map}
use Rattle.jv_base.specs.Types.{field_text}
use Rattle.method_places.specs.bodies.Marks.{with_text}
use Rattle.method_places.proofs.marks.with_types.Given as goal

abbrev pub invariant-loop-ty : goal.invariant-loop-ty
invariant-loop-ty l = l.longer ≡ with_text l.mark (flat_map field_text (take l.ty-index l.types))
