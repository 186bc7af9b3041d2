-- Answers of `place_of`: what its calls ask for, and what it promises.
use Rattle.std.proofs.Common.{◌+◌, ◌<◌, arith}
use Rattle.class_pool.specs.Count.{item_count}
use Rattle.class_pool.specs.Items.{class_item}
use Rattle.class_pool.proofs.Counting.{class_item-next}
use Rattle.list_texts.proofs.Listing.{class_item-ge, class_there}
use Rattle.list_texts.proofs.items.place_of.Goals as goal

pub overflow_add-class : goal.overflow_add-class
overflow_add-class c =
    let one = class_item-next c.args.set.now c.loop-member.class c.class.result.now c.class.ensures.is in
    let some = class_item-ge c.args.set.now (c.loop-member.class + 1) (omega (arith, c.loop-member.invariant.there)) in
    omega (arith, one, some, c.loop-member.invariant.item, c.count_of.ensures, c.loop-member-test.true)

pub loop-member-preserved : goal.loop-member-preserved
loop-member-preserved c =
    let one = class_item-next c.args.set.now c.loop-member.class c.class.result.now c.class.ensures.is in
    let two = class_item-next c.args.set.now c.loop-member.class c.class-in-loop-member.result.now
    c.class-in-loop-member.ensures.is in
    let before : class_item c.args.set.now (c.loop-member.class + 1) < item_count c.args.set.now =
    omega (arith, one, c.requires, c.loop-member.invariant.item, c.count_of.ensures, c.loop-member-test.true) in
    record {
      there = class_there c.args.set.now (c.loop-member.class + 1) before;
      item = omega (
        arith,
        one,
        two,
        c.loop-member.invariant.item,
        c.count_of.ensures,
        c.count_of-member.ensures,
        c.loop-member-test.true,
      );
    }
