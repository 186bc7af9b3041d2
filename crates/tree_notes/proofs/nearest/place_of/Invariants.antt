use Rattle.std.proofs.Common.{◌≤◌, ◌<◌, ◌-◌, ℕ, length, get_or}
use Rattle.tree_notes.specs.declared.nearest.Change.{Change}
use Rattle.tree_notes.proofs.nearest.place_of.Given as goal

abbrev pub invariant-loop-low : goal.invariant-loop-low
invariant-loop-low l = record {
  within : (l.low ≤ l.high) × (l.high ≤ length l.changes);
  before : (k : ℕ) (d : Change) → k < l.low → (get_or l.changes k d).time ≤ l.time;
  behind : (k : ℕ) (d : Change) → l.high ≤ k → k < length l.changes → l.time < (get_or l.changes k d).time;
}

abbrev pub decreases-loop-low : goal.decreases-loop-low
decreases-loop-low l = l.high - l.low
