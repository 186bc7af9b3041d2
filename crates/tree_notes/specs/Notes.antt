-- What is told of a key on the way from a node of a tree upwards.
use Rattle.std.specs.Prelude.{◌≡◌, ◌<◌, IfSome, ℕ, List, [], Option, Some, None, length, slice_get, slice_index_or}
use Rattle.std.specs.List.{Contains}
use Rattle.std.specs.List.Sorted.{IsNonDecreasingBy}
use Rattle.tree_notes.specs.bodies.Times.{changes_at, told_at}
use Rattle.tree_notes.specs.declared.nearest.Change.{Change}
use Rattle.tree_notes.specs.declared.nearest.Nearest.{Nearest}
use Rattle.tree_notes.specs.declared.nearest.Up.{Up}
use Rattle.tree_notes.specs.declared.nearest.Up.TheVariants.{Above, At}
use Rattle.tree_notes.specs.declared.nearest.Visit.{Visit}

-- the node has the key (the project's own: each node has a list of keys)
abbrev pub HasKey : List (List ℕ) → ℕ → ℕ → Type 0
HasKey keys n key = Contains (slice_index_or keys n []) key

-- whoever goes upwards from one place meets the same nodes that have the key as from the other place: at a node without
-- it they are those above it, and those above a node are those at its parent (the project's own)
pub data IsSame (parents : List (Option ℕ)) (keys : List (List ℕ)) (key : ℕ) : Up → Up → Type 0 where
  one : {u v : Up} → u ≡ v → IsSame parents keys key u v
  passed : {u v : Up} (n : ℕ) → (HasKey keys n key → ⊥) → u ≡ At n → v ≡ Above n → IsSame parents keys key u v
  parent : {u v : Up} (n p : ℕ) → slice_get parents n ≡ Some (Some p) → u ≡ Above n → v ≡ At p
      → IsSame parents keys key u v
  back : (u v : Up) → IsSame parents keys key u v → IsSame parents keys key v u
  both : (u v w : Up) → IsSame parents keys key u v → IsSame parents keys key v w → IsSame parents keys key u w

-- what is told for each key when a node is met is the same as at the node
pub record IsVisit (parents : List (Option ℕ)) (keys : List (List ℕ)) (changes : List (List Change)) (n : ℕ)
    (v : Visit) : Type 0 where
  pub leads : (key : ℕ) → key < length changes → IsSame parents keys key (At n) (told_at v (changes_at changes key))

-- the changes of each key come in the order of time, and what is told for each node is right
pub record IsNearest (parents : List (Option ℕ)) (keys : List (List ℕ)) (nearest : Nearest) : Type 0 where
  pub order : (key : ℕ) → IsNonDecreasingBy (λ (c : Change). c.time) (changes_at nearest.changes.items key)
  pub visits : (n : ℕ) → IfSome (slice_index_or nearest.visits.items n None)
      (IsVisit parents keys nearest.changes.items n)
