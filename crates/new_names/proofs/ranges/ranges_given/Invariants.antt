use Rattle.std.proofs.Common.{◌≡◌, map, take}
use Rattle.new_names.specs.NewNames.{range_in}
use Rattle.new_names.proofs.ranges.ranges_given.Given as goal

abbrev pub invariant-loop-method : goal.invariant-loop-method
invariant-loop-method l = l.ranges ≡ map (range_in l.line) (take l.method-index l.class.methods)
