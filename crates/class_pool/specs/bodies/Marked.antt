-- Classes that were met, each once, and marks that tell them by their numbers (only the proof of ClassSet needs it).
use Rattle.std.specs.Prelude.{◌≡◌, ◌<◌, ℕ, Bool, false, true, List, length, slice_index_or}
use Rattle.std.specs.List.{All, list_any}
use Rattle.class_pool.specs.declared.id.ClassId.{ClassId}
use Rattle.class_pool.specs.bodies.Graph.{IsThere, number}
use Rattle.class_pool.specs.Walk.{same_class}

-- those met, of classes whose numbers are below a count
pub record Classes : Type 0 where
  pub count : ℕ
  pub ids : List ClassId

-- a class whose number is below the count
abbrev pub IsBelow : ℕ → ClassId → Type 0
IsBelow count a = IsThere a × number a < count

-- each class that was met is marked, and no other
pub record IsMarked (marks : List Bool) (ids : List ClassId) : Type 0 where
  pub there : All (IsBelow (length marks)) ids
  pub told : (a : ClassId) → IsBelow (length marks) a
      → slice_index_or marks (number a) false ≡ list_any (same_class a) ids

-- what is marked yet was marked before, and is none of these classes
abbrev pub IsLeft : List Bool → List ClassId → List Bool → Type 0
IsLeft old ids new = (a : ClassId) → IsBelow (length old) a → slice_index_or new (number a) false ≡ true
    → (slice_index_or old (number a) false ≡ true) × (list_any (same_class a) ids ≡ false)
