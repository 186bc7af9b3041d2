use Rattle.std.proofs.Common.{◌≡◌}
use Rattle.std.specs.Vec.Iter.{into_iter_items}
use Rattle.pass_driver.specs.Optimised.{with_codes}
use Rattle.pass_driver.proofs.optimising.with_codes.Given as goal

abbrev pub invariant-loop-new : goal.invariant-loop-new
invariant-loop-new l = with_codes (into_iter_items l.new-iterator) l.classes.items ≡ with_codes l.fn.codes l.fn.classes
