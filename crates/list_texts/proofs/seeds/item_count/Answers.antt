-- Answers of `item_count`: what its calls ask for, and what it promises.
use Rattle.std.proofs.Common.{◌≡◌, ◌+◌, arith}
use Rattle.class_pool.specs.Items.{class_item}
use Rattle.class_pool.proofs.Counting.{class_item-next, class_item-le}
use Rattle.list_texts.proofs.seeds.item_count.Goals as goal

pub overflow_add-count : goal.overflow_add-count
overflow_add-count c =
    let next = class_item-next c.args.set.now c.loop-number.number c.class.result.now c.class.ensures.is in
    let most = class_item-le c.args.set.now (c.loop-number.number + 1) in
    omega (arith, next, most, c.few_items.ensures, c.loop-number.invariant, c.count_of-count.ensures)

pub loop-number-preserved : goal.loop-number-preserved
loop-number-preserved c =
    let next = class_item-next c.args.set.now c.loop-number.number c.class.result.now c.class.ensures.is in
    let sum : c.loop-number.count + c.count_of-count.result
    ≡ class_item c.args.set.now (c.loop-number.number + 1) =
    omega (arith, next, c.loop-number.invariant, c.count_of-count.ensures) in
    sum
