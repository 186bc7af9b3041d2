use Rattle.std.proofs.Common.{◌≡◌, map, take}
use Rattle.new_names.specs.NewNames.{method_in}
use Rattle.new_names.proofs.class_names.methods_by.Given as goal

abbrev pub invariant-loop-method : goal.invariant-loop-method
invariant-loop-method l = l.names ≡ map (method_in l.line) (take l.method-index l.methods)
