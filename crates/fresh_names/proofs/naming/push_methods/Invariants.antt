use Rattle.std.proofs.Common.{◌≡◌, ◌++◌, map, take}
use Rattle.jv_base.specs.Types.{method_text}
use Rattle.class_model.specs.declared.class.Method.{Method}
use Rattle.fresh_names.proofs.naming.push_methods.Given as goal

abbrev pub invariant-loop-method : goal.invariant-loop-method
invariant-loop-method l = l.names
    ≡ l.fn.names ++ map (λ (m : Method). (m.name, method_text m.ty)) (take l.method-index l.methods)
