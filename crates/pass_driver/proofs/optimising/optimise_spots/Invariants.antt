use Rattle.std.proofs.Common.{◌≡◌, ◌≤◌, take}
use Rattle.pass_driver.specs.Optimised.{AreDone}
use Rattle.pass_driver.proofs.optimising.optimise_spots.Given as goal

abbrev pub invariant-loop-spot : goal.invariant-loop-spot
invariant-loop-spot l = record {
  done : AreDone l.set (take l.spot-index l.spots) l.optimised.codes l.optimised.witness.methods l.optimised.fallback;
  few : l.optimised.fallback ≤ l.spot-index;
}
