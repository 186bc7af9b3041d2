use Rattle.std.proofs.Common.{◌≡◌}
use Rattle.class_pool.specs.Items.{class_item}
use Rattle.list_texts.proofs.seeds.item_count.Given as goal

abbrev pub invariant-loop-number : goal.invariant-loop-number
invariant-loop-number l = l.count ≡ class_item l.set l.number
