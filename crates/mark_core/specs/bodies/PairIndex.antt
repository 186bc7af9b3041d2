-- The places at which items stand in the pairs, and an index of them (only the proof of plain_marks needs it).
use Rattle.std.specs.Prelude.{◌≡◌, ◌∷◌, ◌++◌, ℕ, ◌+◌, ◌*◌, ◌/◌, ◌%◌, ◌<◌, [], nat_eq, if◌then◌else◌, length}
use Rattle.std.specs.Prelude.{slice_index_or, slice_set}
use Rattle.mark_core.specs.declared.system.System.{System}
use Rattle.mark_core.specs.declared.system.Pair.{Pair}
use Rattle.mark_core.specs.declared.pair_index.PairIndex.{PairIndex}

-- the pair with this number; past the last one it doesn't matter
abbrev pub pair_at : System → ℕ → Pair
pair_at sys k = slice_index_or sys.pairs k (record { one = 0; two = 0; derived = 0 })

-- the item at place 2 k is the first one of pair k, and that at place 2 k + 1 its second one
abbrev pub item_at : System → ℕ → ℕ
item_at sys place = if nat_eq (place % 2) 0 then (pair_at sys (place / 2)).one else (pair_at sys (place / 2)).two

-- the length of the front that has all places of the item
abbrev pub front_of : PairIndex → ℕ → ℕ
front_of index x = slice_index_or index.fronts.items x 0

-- the length of the front that has all places before this one that have its item
abbrev pub link_of : PairIndex → ℕ → ℕ
link_of index place = slice_index_or index.links.items place 0

-- the first m places are indexed: each front has all places of its item, and ends with one of them
pub record IsIndexOf (sys : System) (m : ℕ) (index : PairIndex) : Type 0 where
  pub items : length index.fronts.items ≡ sys.n
  pub places : length index.links.items ≡ m
  pub front_has : (p : ℕ) → p < m → p < front_of index (item_at sys p)
  pub front_ends : (x p : ℕ) → front_of index x ≡ p + 1 → (p < m) × (item_at sys p ≡ x)
  pub link_has : (p q : ℕ) → p < q → q < m → item_at sys p ≡ item_at sys q → p < link_of index q
  pub link_ends : (p q : ℕ) → q < m → link_of index q ≡ p + 1 → (p < q) × (item_at sys p ≡ item_at sys q)

-- all places of the system's pairs are indexed
abbrev pub IsIndex : System → PairIndex → Type 0
IsIndex sys index = IsIndexOf sys (2 * length sys.pairs) index

-- the next place is linked to the item's front, which then ends with it
pub record LinksNext (old new : PairIndex) (item : ℕ) : Type 0 where
  pub links : new.links.items ≡ old.links.items ++ front_of old item ∷ []
  pub fronts : new.fronts.items ≡ slice_set old.fronts.items item (length old.links.items + 1)
