-- Answers of `starts_of`: what its calls ask for, and what it promises.
use Rattle.std.proofs.Common.{rules, ◌≡◌, ◌+◌, ◌++◌, ◌∷◌, [], arith}
use Rattle.class_pool.specs.Items.{class_item}
use Rattle.class_pool.proofs.Counting.{class_item-next, class_item-le}
use Rattle.require_sys.proofs.Numbering.{table_more}
use Rattle.item_numbers.proofs.numbered.starts_of.Goals as goal

pub overflow_add-next-in-loop-number-2 : goal.overflow_add-next-in-loop-number-2
overflow_add-next-in-loop-number-2 c =
    let next = class_item-next c.args.set.now c.loop-number.number c.class-class.result.now c.class-class.ensures.is in
    let most = class_item-le c.args.set.now (c.loop-number.number + 1) in
    omega (arith, next, most, c.loop-number.invariant.next, c.len.ensures, c.len-in-loop-number.ensures, c.requires)

pub loop-number-preserved : goal.loop-number-preserved
loop-number-preserved c =
    let next = class_item-next c.args.set.now c.loop-number.number c.class-class.result.now c.class-class.ensures.is in
    let sum : c.loop-number.next + (1 + (c.len.result + c.len-in-loop-number.result))
    ≡ class_item c.args.set.now (c.loop-number.number + 1) =
    omega (arith, next, c.loop-number.invariant.next, c.len.ensures, c.len-in-loop-number.ensures) in
    let grown : c.push-in-loop-number.new.self
    ≡ c.loop-number.starts ++
    (c.loop-number.next + (1 + (c.len.result + c.len-in-loop-number.result))) ∷ [] = search rules in
    let more = table_more c.args.set.now c.loop-number.number _ c.loop-number.starts c.push-in-loop-number.new.self
    c.loop-number.invariant.count c.loop-number.invariant.each sum grown in
    record { next = sum; count = more.0; each = more.1 }
