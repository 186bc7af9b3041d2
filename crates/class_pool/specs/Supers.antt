-- Supertypes by lists (JLS 4.10.2).
use Rattle.std.specs.Prelude.{◌≢◌, Bool, List, ◌++◌}
use Rattle.std.specs.List.{All, AllPairs, Contains, list_any}
use Rattle.class_model.specs.declared.class.Class.{Class}
use Rattle.class_pool.specs.declared.id.ClassId.{ClassId}
use Rattle.class_pool.specs.Hierarchy.{IsClass}
use Rattle.class_pool.specs.Supertypes.{IsProperSub}
use Rattle.class_pool.specs.Walk.{same_class, superclasses_from, superinterfaces}

-- the list has each supertype of the class one step or more above it, once (JLS 4.10.2)
pub record IsSupers (classes : List Class) (a : ClassId) (ids : List ClassId) : Type 0 where
  pub each : All (λ b. IsClass classes b × IsProperSub classes a b) ids
  pub all : (b : ClassId) → IsClass classes b → IsProperSub classes a b → Contains ids b
  pub once : AllPairs (λ b c. b ≢ c) ids

-- a class is another one or below it, by the walk over its supertypes
abbrev pub is_below : List Class → ClassId → ClassId → Bool
is_below classes a b = list_any (same_class b) (superclasses_from classes a ++ superinterfaces classes a)
