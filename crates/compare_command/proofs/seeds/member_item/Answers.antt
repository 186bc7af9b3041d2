-- Answers of `member_item`: what its calls ask for, and what it promises.
use Rattle.std.proofs.Common.{arith}
use Rattle.compare_command.proofs.Items.{member_below}
use Rattle.compare_command.proofs.seeds.member_item.Goals as goal

pub overflow_add-result : goal.overflow_add-result
overflow_add-result c =
    let below = member_below c.args.set.now c.args.number c.args.index c.requires.1 in
    omega (arith, below, c.class_item.ensures, c.few_items.ensures)

pub overflow_add-result-2 : goal.overflow_add-result-2
overflow_add-result-2 c =
    let below = member_below c.args.set.now c.args.number c.args.index c.requires.1 in
    omega (arith, below, c.class_item.ensures, c.few_items.ensures)
