-- Answers of `optimise_spots`: what its calls ask for, and what it promises.
use Rattle.std.proofs.Common.{◌<◌, subst, take, length, arith}
use Rattle.std.proofs.Common.{List}
use Rattle.std.specs.Prelude.{slice_index_or}
use Rattle.pass_driver.specs.Optimised.{AreDone}
use Rattle.pass_driver.specs.bodies.Spotted.{IsSpot}
use Rattle.pass_driver.specs.declared.spots.Spot.{Spot}
use Rattle.pass_driver.proofs.Spotting.{done_next, few_for, has_at, taken_more}
use Rattle.pass_driver.proofs.optimising.optimise_spots.Goals as goal

pub put_spot-requires-clause-there : goal.put_spot-requires-clause-there
put_spot-requires-clause-there c =
    let lt : c.loop-spot.spot-index < length c.args.spots.now = omega (arith, c.loop-spot-test.true) in
    has_at (IsSpot c.args.set.now) c.args.spots.now c.loop-spot.spot-index (record { class = 0; method = 0 })
    c.requires.there lt

pub loop-spot-preserved : goal.loop-spot-preserved
loop-spot-preserved c =
    let items = c.args.spots.now in
    let k = c.loop-spot.spot-index in
    let lt : k < length items = omega (arith, c.loop-spot-test.true) in
    let s : Spot = slice_index_or items k (record { class = 0; method = 0 }) in
    let h = c.in_ok-optimised.ensures in
    let new = c.in_ok-optimised.optimised in
    let fallback = h.fallback in
    let few = few_for h.outcome in
    record {
      done = subst (λ (l : List Spot). AreDone c.args.set.now l new.codes new.witness.methods new.fallback)
          (taken_more items k (record { class = 0; method = 0 }) lt)
          (done_next c.args.set.now s c.loop-spot.optimised new h (take k items) c.loop-spot.invariant.done);
      few = omega (arith, fallback, few, c.loop-spot.invariant.few);
    }
