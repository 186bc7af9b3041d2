use Rattle.std.proofs.Common.{◌≡◌, take}
use Rattle.fresh_names.specs.Given.{field_names}
use Rattle.fresh_names.proofs.naming.field_names.Given as goal

abbrev pub invariant-loop-class : goal.invariant-loop-class
invariant-loop-class l = l.names ≡ field_names (take l.class-index l.kept)
