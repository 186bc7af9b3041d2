use Rattle.std.proofs.Common.{◌≡◌, take}
use Rattle.fresh_names.specs.Given.{method_names}
use Rattle.fresh_names.proofs.naming.method_names.Given as goal

abbrev pub invariant-loop-class : goal.invariant-loop-class
invariant-loop-class l = l.methods ≡ method_names (take l.class-index l.kept)
