use Rattle.std.proofs.Common.{◌≡◌, drop}
use Rattle.std.specs.List.{flat_map}
use Rattle.jv_base.specs.Types.{field_text}
use Rattle.lib_table.specs.bodies.Stripping.{behind}
use Rattle.lib_table.proofs.descriptor.behind_fields.Given as goal

abbrev pub invariant-loop-ty : goal.invariant-loop-ty
invariant-loop-ty l = behind (flat_map field_text (drop l.ty-index l.types)) l.rest
    ≡ behind (flat_map field_text l.types) l.fn.text
