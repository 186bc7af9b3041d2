use Rattle.std.proofs.Common.{◌≡◌, ◌+◌, ◌-◌, ◌<◌, length}
use Rattle.class_pool.specs.Items.{class_item}
use Rattle.pair_clauses.proofs.lined.standing_of.Given as goal

abbrev pub invariant-loop-member : goal.invariant-loop-member
invariant-loop-member l = record {
  there : l.class < length l.set;
  item : class_item l.set l.class + l.member ≡ l.item;
}

abbrev pub decreases-loop-member : goal.decreases-loop-member
decreases-loop-member l = length l.set - l.class
