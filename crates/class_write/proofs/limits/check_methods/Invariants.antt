use Rattle.std.proofs.Common.{◌≡◌, ℕ, List, drop}
use Rattle.class_model.specs.WriteLimits.{first_of, method_tables_fit}
use Rattle.class_write.proofs.limits.check_methods.Given as goal

abbrev pub invariant-loop-method : goal.invariant-loop-method
invariant-loop-method l =
    (class : List ℕ) → first_of (method_tables_fit class) (drop l.method-index l.methods)
    ≡ first_of (method_tables_fit class) l.methods
