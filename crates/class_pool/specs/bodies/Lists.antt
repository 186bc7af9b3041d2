-- Lists of the superinterfaces that each class has itself (only the proof of ClassSet needs it).
use Rattle.std.specs.Prelude.{◌≡◌, ◌+◌, List, [], ◌∷◌, length, slice_index_or}
use Rattle.std.specs.List.{All, flat_map}
use Rattle.class_model.specs.declared.class.Class.{Class}
use Rattle.lib_table.specs.Library.{library}
use Rattle.class_pool.specs.declared.id.ClassId.{ClassId}
use Rattle.class_pool.specs.bodies.Graph.{number}
use Rattle.class_pool.specs.Hierarchy.{IsClass, interfaces}
use Rattle.class_pool.specs.Walk.{each_once, own_superinterfaces}

-- the list of a class, by its number
abbrev pub list_at : List (List ClassId) → ClassId → List ClassId
list_at lists a = slice_index_or lists (number a) []

-- each class has its superinterfaces, each once
pub record AreOwn (classes : List Class) (lists : List (List ClassId)) : Type 0 where
  pub count : length lists ≡ length library + length classes
  pub there : All (All (IsClass classes)) lists
  pub own : (a : ClassId) → IsClass classes a → list_at lists a ≡ each_once [] (own_superinterfaces classes a)

-- the superinterfaces of a class are the direct ones, each followed by its own
abbrev pub AreSteps : List Class → Type 0
AreSteps classes = (a : ClassId) → IsClass classes a
    → own_superinterfaces classes a ≡ flat_map (λ i. i ∷ own_superinterfaces classes i) (interfaces classes a)
