-- Lists that are counted while they grow, and are no longer made where the count passes its limit (only the proof of
-- system_of needs it).
use Rattle.std.specs.Prelude.{◌≡◌, ◌≤◌, ◌<◌, ℕ, ◌^◌, List, ◌++◌, length}
use Rattle.std.specs.List.{sum_by}
use Rattle.require_sys.specs.Limits.{counted_limit}
use Rattle.require_sys.specs.declared.limits.Counted.TheVariants as counted
use Rattle.item_needs.specs.declared.needs.Needs.{Needs}

-- these lists were counted, as far as a counter goes, and are there where they aren't too long together
pub record HasNeeds (due : List (List ℕ)) (needs : Needs) : Type 0 where
  pub count : sum_by length due < 2 ^ 64 → needs.count ≡ sum_by length due
  pub made : needs.count ≤ counted_limit counted.Needs → needs.lists ≡ due

-- some more lists were counted
abbrev pub AddsNeeds : Needs → List (List ℕ) → Needs → Type 0
AddsNeeds old more new = (due : List (List ℕ)) → HasNeeds due old → HasNeeds (due ++ more) new
