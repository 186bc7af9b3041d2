use Rattle.std.proofs.Common.{◌≡◌, None, map, take}
use Rattle.new_names.proofs.class_names.no_methods.Given as goal

abbrev pub invariant-loop-method : goal.invariant-loop-method
invariant-loop-method l = l.names ≡ map (λ x. None) (take l.method-index l.methods)
