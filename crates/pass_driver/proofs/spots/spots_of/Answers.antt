-- Answers of `spots_of`: what its calls ask for, and what it promises.
use Rattle.std.proofs.Common.{◌≡◌, ◌+◌, length, arith}
use Rattle.class_pool.specs.Count.{items_of}
use Rattle.pass_driver.specs.Optimised.{spots}
use Rattle.pass_driver.proofs.Spotting.{rest_items, spots_more}
use Rattle.pass_driver.proofs.spots.spots_of.Goals as goal

pub put_spots-requires-clause-marks : goal.put_spots-requires-clause-marks
put_spots-requires-clause-marks c =
    let sum = rest_items c.args.set.now c.loop-own.own c.class-class.result.now c.class-class.ensures.is in
    omega (arith, sum, c.loop-own.invariant.item, c.len.ensures)

pub loop-own-preserved : goal.loop-own-preserved
loop-own-preserved c =
    let class = c.class-class.result.now in
    let sum = rest_items c.args.set.now c.loop-own.own class c.class-class.ensures.is in
    let first : c.loop-own.item + 1 + c.len.result ≡ c.loop-own.item + 1 + length class.fields = omega
    (arith, c.len.ensures) in
    let next : c.loop-own.item + 1 + c.len.result + c.len-in-loop-own.result ≡ c.loop-own.item + items_of class = omega
    (arith, c.len.ensures, c.len-in-loop-own.ensures) in
    record {
      spots = spots_more c.args.marks.now c.args.set.now c.loop-own.own c.loop-own.item class c.class-class.ensures.is
          c.loop-own.spots c.put_spots.new.spots (spots c.args.marks.now c.args.set.now)
          (c.loop-own.item + 1 + c.len.result)
          (c.loop-own.item + 1 + c.len.result + c.len-in-loop-own.result) first next c.in_ok-put_spots.ensures
          c.loop-own.invariant.spots;
      item = omega (arith, sum, c.loop-own.invariant.item, c.len.ensures, c.len-in-loop-own.ensures);
    }
