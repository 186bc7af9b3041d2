-- The walk over the nodes (only the proof of nearest_of needs it).
use Rattle.std.specs.Prelude.{◌≡◌, ◌≤◌, ◌<◌, ◌⊎◌, IfSome, ℕ, List, Option, Some, None, length, slice_get, slice_index_or}
use Rattle.std.specs.List.{Contains}
use Rattle.std.specs.List.Sorted.{IsNonDecreasingBy}
use Rattle.tree_notes.specs.Notes.{IsNearest, IsVisit}
use Rattle.tree_notes.specs.bodies.Times.{IsUpTo, changes_at, told_at}
use Rattle.tree_notes.specs.declared.nearest.Change.{Change}
use Rattle.tree_notes.specs.declared.nearest.Up.{Up}
use Rattle.tree_notes.specs.declared.nearest.Visit.{Visit}
use Rattle.tree_notes.specs.declared.walk.Here.{Here}
use Rattle.tree_notes.specs.declared.walk.Walk.{Walk}

-- the changes of each key come in the order of time
abbrev pub AreOrdered : List (List Change) → Type 0
AreOrdered changes = (key : ℕ) → IsNonDecreasingBy (λ (c : Change). c.time) (changes_at changes key)

-- none comes after a time
abbrev pub AreUpTo : ℕ → List (List Change) → Type 0
AreUpTo t changes = (key : ℕ) → IsUpTo t (changes_at changes key)

-- at a time these keys lead to other places
pub record ArePut (t : ℕ) (up : ℕ → Up) (ks : List ℕ) (old new : List (List Change)) : Type 0 where
  pub count : length new ≡ length old
  pub kept : (key : ℕ) → (Contains ks key → ⊥) → changes_at new key ≡ changes_at old key
  pub earlier : (key : ℕ) (v : Visit) → v.time < t → told_at v (changes_at new key) ≡ told_at v (changes_at old key)
  pub put : (key : ℕ) (v : Visit) → Contains ks key → key < length old → v.time ≡ t → v.start ≤ t
      → told_at v (changes_at new key) ≡ up key
  pub order : AreUpTo t old → AreOrdered old → AreOrdered new
  pub up_to : AreUpTo t old → AreUpTo t new

-- what is told of the node at which the walk is
pub record IsHere (parents : List (Option ℕ)) (keys : List (List ℕ)) (changes : List (List Change)) (t : ℕ)
    (here : Here) : Type 0 where
  pub leads : IsVisit parents keys changes here.node here.visit
  pub now : here.visit.time ≡ t
  pub begun : here.visit.start ≤ t

-- what was noted so far is right, and not later than the walk's time
pub record IsWalk (parents : List (Option ℕ)) (keys : List (List ℕ)) (walk : Walk) : Type 0 where
  pub nearest : IsNearest parents keys walk.nearest
  pub changes : AreUpTo walk.time walk.nearest.changes.items
  pub visits : (n : ℕ) → IfSome (slice_index_or walk.nearest.visits.items n None) (λ v. v.time ≤ walk.time)
  pub here : IfSome walk.here (IsHere parents keys walk.nearest.changes.items walk.time)

-- the visit of a node below the one at which the walk is, or of the topmost one of another tree
abbrev pub IsBelow : List (Option ℕ) → Option Here → ℕ → ℕ → Visit → Type 0
IsBelow parents at node t v =
    ((h : Here) × (at ≡ Some h) × (slice_get parents node ≡ Some (Some h.node))
    × (v ≡ record { time = t; start = h.visit.start; top = h.visit.top }))
    ⊎ (v ≡ record { time = t; start = t; top = node })
