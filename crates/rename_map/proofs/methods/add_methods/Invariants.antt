use Rattle.std.proofs.Common.{◌≡◌, ◌+◌, length, map, take}
use Rattle.jv_base.specs.Types.{method_text}
use Rattle.class_model.specs.declared.class.Method.{Method}
use Rattle.class_rename.specs.Names.{is_same_method}
use Rattle.member_shrink.specs.Shrunk.{chosen}
use Rattle.rename_map.specs.bodies.Adding.{Adds}
use Rattle.rename_map.proofs.methods.add_methods.Given as goal

abbrev pub invariant-loop-method : goal.invariant-loop-method
invariant-loop-method l = (l.item ≡ 1 + length l.class.fields + l.method-index)
    × Adds is_same_method l.fn.methods (map (λ (m : Method). (m.name, method_text m.ty))
    (chosen l.row (1 + length l.class.fields) (take l.method-index l.class.methods))) l.methods
