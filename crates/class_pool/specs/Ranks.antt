-- That walks up a hierarchy come to an end, and where (JVMS 4.1, 5.3.5).
use Rattle.std.specs.Prelude.{◌≡◌, ◌+◌, ◌<◌, ◌≤◌, ℕ, List, length, Some, None}
use Rattle.std.specs.List.{All}
use Rattle.class_model.specs.declared.class.Class.{Class}
use Rattle.lib_table.specs.Library.{library}
use Rattle.class_pool.specs.declared.id.ClassId.{ClassId}
use Rattle.class_pool.specs.Hierarchy.{IsClass, interfaces, superclass}
use Rattle.class_pool.specs.Supertypes.{direct}

-- each class can be given a rank that those of its direct supertypes are below
-- (the project's own: walks upwards come to an end)
pub record HasRanks (classes : List Class) : Type 0 where
  pub rank : ClassId → ℕ
  pub falls : (a : ClassId) → IsClass classes a → All (λ b. rank b < rank a) (direct classes a)
  pub most : (a : ClassId) → IsClass classes a → rank a ≤ length library + length classes

-- Object stands above each class: a class without a superclass is Object, and the superclass of an interface is Object
-- (JVMS 4.1)
pub record HasObject (classes : List Class) : Type 0 where
  pub object : ClassId
  pub alone : (a : ClassId) → IsClass classes a → superclass classes a ≡ None → a ≡ object
  pub above : (a : ClassId) → IsClass classes a → All (λ i. superclass classes i ≡ Some object) (interfaces classes a)
