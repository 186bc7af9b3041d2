-- Answers of `Numbered::member_item`: what its calls ask for, and what it promises.
use Rattle.std.proofs.Common.{arith}
use Rattle.require_sys.proofs.Numbering.{item_sum}
use Rattle.item_numbers.proofs.numbered.Numbered.member_item.Goals as goal

pub overflow_add-result : goal.overflow_add-result
overflow_add-result c =
    let sum = item_sum c.args.self.now.set.now c.args.self.now.starts c.args.number c.args.index c.index.result.now
    c.args.self.now.are c.requires c.index.ensures in
    let few = c.args.self.now.few in
    omega (arith, sum.0, few)

pub overflow_add-result-2 : goal.overflow_add-result-2
overflow_add-result-2 c =
    let sum = item_sum c.args.self.now.set.now c.args.self.now.starts c.args.number c.args.index c.index.result.now
    c.args.self.now.are c.requires c.index.ensures in
    let few = c.args.self.now.few in
    omega (arith, sum.0, few)

pub returns : goal.returns
returns c =
    (item_sum c.args.self.now.set.now c.args.self.now.starts c.args.number c.args.index c.index.result.now
    c.args.self.now.are c.requires c.index.ensures).1
