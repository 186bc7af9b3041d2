use Rattle.std.proofs.Common.{◌≡◌, ◌⊎◌, ◌≤◌, ◌-◌, length, true, false}
use Rattle.std.specs.Prelude.{slice_get}
use Rattle.const_tables.specs.Stretches.{up_by}
use Rattle.const_tables.proofs.facts.count_up_to.Given as goal

abbrev pub invariant-loop-low : goal.invariant-loop-low
invariant-loop-low l = record {
  below : l.low ≤ l.high;
  within : l.high ≤ length l.stretches;
  up : (l.low ≡ 0) ⊎ (up_by (slice_get l.stretches (l.low - 1)) l.slot l.at ≡ true);
  behind : up_by (slice_get l.stretches l.high) l.slot l.at ≡ false;
}

abbrev pub decreases-loop-low : goal.decreases-loop-low
decreases-loop-low l = l.high - l.low
