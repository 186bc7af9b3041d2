-- Pairs that are counted while they grow, and are no longer made where the count passes its limit (only the proof of
-- system_of needs it).
use Rattle.std.specs.Prelude.{◌≡◌, ◌≤◌, ◌<◌, ◌^◌, List, ◌++◌, length}
use Rattle.mark_core.specs.declared.system.Pair.{Pair}
use Rattle.require_sys.specs.Limits.{counted_limit}
use Rattle.require_sys.specs.declared.limits.Counted.TheVariants as counted
use Rattle.override_pairs.specs.declared.pairs.Pairs.{Pairs}

-- these pairs were counted, as far as a counter goes, and are there where they aren't too many
pub record HasPairs (due : List Pair) (pairs : Pairs) : Type 0 where
  pub count : length due < 2 ^ 64 → pairs.count ≡ length due
  pub made : pairs.count ≤ counted_limit counted.Pairs → pairs.pairs ≡ due

-- some more pairs were counted
abbrev pub AddsPairs : Pairs → List Pair → Pairs → Type 0
AddsPairs old more new = (due : List Pair) → HasPairs due old → HasPairs (due ++ more) new
