use Rattle.std.proofs.Common.{◌≡◌, ◌≤◌, ◌<◌, ◌-◌, ℕ, true, false, nat_lt, length, get_or}
use Rattle.method_places.proofs.alike.place_of.Given as goal

abbrev pub invariant-loop-low : goal.invariant-loop-low
invariant-loop-low l = record {
  within : (l.low ≤ l.high) × (l.high ≤ length l.keys);
  before : (k : ℕ) → k < l.low → nat_lt (get_or l.keys k 0) l.mark ≡ true;
  behind : (k : ℕ) → l.high ≤ k → k < length l.keys → nat_lt (get_or l.keys k 0) l.mark ≡ false;
}

abbrev pub decreases-loop-low : goal.decreases-loop-low
decreases-loop-low l = l.high - l.low
