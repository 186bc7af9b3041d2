use Rattle.std.proofs.Common.{◌≡◌}
use Rattle.class_pool.specs.Items.{class_item}
use Rattle.compare_command.proofs.seeds.class_item.Given as goal

abbrev pub invariant-loop-before : goal.invariant-loop-before
invariant-loop-before l = l.item ≡ class_item l.set l.before
