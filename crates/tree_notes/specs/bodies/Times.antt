-- Where a key leads at a time (only the proof of nearest_of needs it).
use Rattle.std.specs.Prelude.{◌≤◌, ◌<◌, ◌&&◌, nat_le, ℕ, Bool, List, [], ◌∷◌, length}
use Rattle.std.specs.Prelude.{slice_index_or, if◌then◌else◌}
use Rattle.std.specs.List.{All}
use Rattle.tree_notes.specs.declared.nearest.Change.{Change}
use Rattle.tree_notes.specs.declared.nearest.Up.{Up}
use Rattle.tree_notes.specs.declared.nearest.Up.TheVariants.{Above}
use Rattle.tree_notes.specs.declared.nearest.Visit.{Visit}

-- the changes of a key
abbrev pub changes_at : List (List Change) → ℕ → List Change
changes_at changes key = slice_index_or changes key []

-- a change between the start of the walk over a tree and the time of a visit
abbrev pub is_in : Visit → Change → Bool
is_in v c = nat_le v.start c.time && nat_le c.time v.time

-- where the last such change leads, or the place that was told before
abbrev pub told : Visit → Up → List Change → Up
told v up [] = up
told v up (c ∷ cs) = told v (if is_in v c then c.up else up) cs

-- the same from the start on: above the topmost node where nothing changed
abbrev pub told_at : Visit → List Change → Up
told_at v cs = told v (Above v.top) cs

-- no change comes after a time
abbrev pub IsUpTo : ℕ → List Change → Type 0
IsUpTo t cs = All (λ (c : Change). c.time ≤ t) cs

-- just the changes before a place come up to a time
pub record IsPlace (cs : List Change) (t place : ℕ) : Type 0 where
  pub within : place ≤ length cs
  pub before : (k : ℕ) (d : Change) → k < place → (slice_index_or cs k d).time ≤ t
  pub behind : (k : ℕ) (d : Change) → place ≤ k → k < length cs → t < (slice_index_or cs k d).time
