use Rattle.std.proofs.Common.{◌≡◌, ◌++◌, take, drop, map}
use Rattle.attribute_filter.specs.Filtered.{method_filtered}
use Rattle.attribute_filter.proofs.filtering.methods_filtered.Given as goal

abbrev pub invariant-loop-method : goal.invariant-loop-method
invariant-loop-method l = l.method-items
    ≡ map (method_filtered l.filter) (take l.method-index l.fn.methods) ++ drop l.method-index l.fn.methods
