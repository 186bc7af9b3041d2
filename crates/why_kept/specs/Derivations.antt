-- How an item comes to be kept: its derivations in a system (the project's own).
use Rattle.std.specs.Prelude.{◌≡◌, ℕ, ◌+◌, max}
use Rattle.std.specs.List.{Contains}
use Rattle.mark_core.specs.Marks.{needs_of}
use Rattle.mark_core.specs.declared.system.Pair.{Pair}
use Rattle.mark_core.specs.declared.system.System.{System}

-- a seed alone; an item with one derivation, of an item that needs it; or an item with two, of the items of a pair
pub data Tree : Type 0 where
  seed : ℕ → Tree
  need : ℕ → Tree → Tree
  pair : ℕ → Tree → Tree → Tree

-- the item that it derives
abbrev pub item_of : Tree → ℕ
item_of (seed x) = x
item_of (need x t) = x
item_of (pair x t u) = x

-- 0 for a seed alone, else one more than the greatest depth below
abbrev pub depth_of : Tree → ℕ
depth_of (seed x) = 0
depth_of (need x t) = depth_of t + 1
depth_of (pair x t u) = max (depth_of t) (depth_of u) + 1

-- the pair of two items, and what it marks
abbrev pub pair_of : ℕ → ℕ → ℕ → Pair
pair_of one two derived = record { one = one; two = two; derived = derived }

-- it is a derivation in the system: each part is a seed, a need or the consequence of a pair of it
abbrev pub IsDerivation : System → Tree → Type 0
IsDerivation sys (seed x) = Contains sys.seeds x
IsDerivation sys (need x t) = Contains (needs_of sys (item_of t)) x × IsDerivation sys t
IsDerivation sys (pair x t u) =
    Contains sys.pairs (pair_of (item_of t) (item_of u) x) × IsDerivation sys t × IsDerivation sys u

-- the item has a derivation of this depth
pub record IsDerivedAt (sys : System) (x depth : ℕ) : Type 0 where
  pub tree : Tree
  pub derives : IsDerivation sys tree
  pub item : item_of tree ≡ x
  pub deep : depth_of tree ≡ depth
