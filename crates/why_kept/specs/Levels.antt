-- Levels of items: how deep derivations are at least (the project's own). A level is a number for each item, where the
-- number of items stands for none.
use Rattle.std.specs.Prelude.{◌≡◌, ◌<◌, ◌≤◌, ℕ, ◌+◌, max, List, length, slice_index_or}
use Rattle.std.specs.List.{All}
use Rattle.mark_core.specs.Marks.{needs_of}
use Rattle.mark_core.specs.declared.system.Pair.{Pair}
use Rattle.mark_core.specs.declared.system.System.{System}
use Rattle.why_kept.specs.Derivations.{IsDerivation, IsDerivedAt, Tree, depth_of, item_of}

-- the level of an item
abbrev pub level_of : System → List ℕ → ℕ → ℕ
level_of sys levels x = slice_index_or levels x sys.n

-- the item has one
abbrev pub HasLevel : System → List ℕ → ℕ → Type 0
HasLevel sys levels x = level_of sys levels x < sys.n

-- the greater level of the items of a pair
abbrev pub level_of_pair : System → List ℕ → Pair → ℕ
level_of_pair sys levels pair = max (level_of sys levels pair.one) (level_of sys levels pair.two)

-- each of the items has this level at most
abbrev pub AreNear : System → List ℕ → ℕ → List ℕ → Type 0
AreNear sys levels most xs = All (λ x. level_of sys levels x ≤ most) xs

-- what each of the first m items needs that has a level has at most one more
abbrev pub AreNeedsNear : System → List ℕ → ℕ → Type 0
AreNeedsNear sys levels m = (x : ℕ) → x < m → HasLevel sys levels x
    → AreNear sys levels (level_of sys levels x + 1) (needs_of sys x)

-- the consequence of a pair whose items have levels has at most one more than the greater one
abbrev pub IsPairNear : System → List ℕ → Pair → Type 0
IsPairNear sys levels pair = HasLevel sys levels pair.one → HasLevel sys levels pair.two
    → level_of sys levels pair.derived ≤ level_of_pair sys levels pair + 1

-- there is a number for each item, seeds have 0, and what is needed and what follows is near
pub record IsCertified (sys : System) (levels : List ℕ) : Type 0 where
  pub count : length levels ≡ sys.n
  pub seeds : All (λ x. level_of sys levels x ≡ 0) sys.seeds
  pub needs : AreNeedsNear sys levels sys.n
  pub pairs : All (IsPairNear sys levels) sys.pairs

-- no derivation of an item is less deep than its level, and an item without one has none
abbrev pub AreBounds : System → List ℕ → Type 0
AreBounds sys levels = (tree : Tree) → IsDerivation sys tree
    → HasLevel sys levels (item_of tree) × (level_of sys levels (item_of tree) ≤ depth_of tree)

-- they are the least depths of derivations: each item has none and no derivation, or one that is reached
pub record AreLeast (sys : System) (levels : List ℕ) : Type 0 where
  pub count : length levels ≡ sys.n
  pub most : (x : ℕ) → level_of sys levels x ≤ sys.n
  pub reached : (x : ℕ) → HasLevel sys levels x → IsDerivedAt sys x (level_of sys levels x)
  pub bounds : AreBounds sys levels
