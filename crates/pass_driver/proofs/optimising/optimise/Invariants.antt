use Rattle.std.proofs.Common.{◌≡◌, length}
use Rattle.std.specs.Vec.Iter.{into_iter_items, into_iter_len}
use Rattle.pass_driver.specs.Optimised.{spots}
use Rattle.pass_driver.proofs.Parting.{IsJoining}
use Rattle.pass_driver.proofs.optimising.optimise.Given as goal

abbrev pub invariant-loop-part : goal.invariant-loop-part
invariant-loop-part g l = record {
  joining : IsJoining l.set (spots l.marked l.set) l.optimised (into_iter_items l.part-iterator);
  counted : into_iter_len l.part-iterator ≡ length (into_iter_items l.part-iterator);
}
