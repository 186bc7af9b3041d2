use Rattle.std.proofs.Common.{◌≡◌, take}
use Rattle.fresh_names.specs.Given.{class_names}
use Rattle.fresh_names.proofs.naming.class_names.Given as goal

abbrev pub invariant-loop-class : goal.invariant-loop-class
invariant-loop-class l = l.names ≡ class_names (take l.class-index l.kept)
