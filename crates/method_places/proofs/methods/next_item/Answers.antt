-- Answers of `next_item`: what its calls ask for, and what it promises.
use Rattle.std.proofs.Common.{◌+◌, arith}
use Rattle.class_pool.proofs.Counting.{class_item-le, class_item-next}
use Rattle.method_places.proofs.methods.next_item.Goals as goal

pub overflow_add-result-3 : goal.overflow_add-result-3
overflow_add-result-3 c =
    let next = class_item-next c.args.set.now c.args.number c.args.class.now c.requires.there in
    let most = class_item-le c.args.set.now (c.args.number + 1) in
    omega (arith, next, most, c.len.ensures, c.len-2.ensures, c.requires.item, c.requires.items)

pub returns : goal.returns
returns c =
    let next = class_item-next c.args.set.now c.args.number c.args.class.now c.requires.there in
    omega (arith, next, c.len.ensures, c.len-2.ensures, c.requires.item)
