-- The pairs of each item, in lists (only the proof of `why` needs it).
use Rattle.std.specs.Prelude.{◌≡◌, ◌⊎◌, ℕ, List, [], length, slice_index_or}
use Rattle.std.specs.List.{All, Contains}
use Rattle.mark_core.specs.declared.system.Pair.{Pair}
use Rattle.mark_core.specs.declared.system.System.{System}

-- the list of an item
abbrev pub pairs_at : List (List Pair) → ℕ → List Pair
pairs_at lists x = slice_index_or lists x []

-- the pair has the item
abbrev pub HasItem : ℕ → Pair → Type 0
HasItem x pair = (pair.one ≡ x) ⊎ (pair.two ≡ x)

-- there is a list for each item, which has pairs of the system that have the item, and each of these pairs stands in the
-- lists of both of its items
pub record IsByItemOf (sys : System) (pairs : List Pair) (lists : List (List Pair)) : Type 0 where
  pub count : length lists ≡ sys.n
  pub listed : (x : ℕ) → All (λ pair. Contains sys.pairs pair × HasItem x pair) (pairs_at lists x)
  pub one : All (λ (pair : Pair). Contains (pairs_at lists pair.one) pair) pairs
  pub two : All (λ (pair : Pair). Contains (pairs_at lists pair.two) pair) pairs

-- so it is of all pairs of the system
abbrev pub IsByItem : System → List (List Pair) → Type 0
IsByItem sys lists = IsByItemOf sys sys.pairs lists

-- a pair was added to lists of its items, and to those of these that are named
pub record Adds (pair : Pair) (old new : List (List Pair)) : Type 0 where
  pub count : length new ≡ length old
  pub keeps : (x : ℕ) (other : Pair) → Contains (pairs_at old x) other → Contains (pairs_at new x) other
  pub fresh : (x : ℕ) (other : Pair) → Contains (pairs_at new x) other
      → Contains (pairs_at old x) other ⊎ ((other ≡ pair) × HasItem x pair)
