-- Where an item stands (only the proofs of bodies need it).
use Rattle.std.specs.Prelude.{◌≡◌, ◌<◌, ℕ, ◌+◌, List, length, Some, slice_get}
use Rattle.class_model.specs.declared.class.Class.{Class}
use Rattle.class_pool.specs.Count.{items_of}
use Rattle.class_pool.specs.Items.{class_item}
use Rattle.pair_clauses.specs.declared.lined.Standing.{Standing}

-- the item is that of the class with the number, or of one of its members
pub record Stands (classes : List Class) (item : ℕ) (place : Standing) : Type 0 where
  pub there : place.class < length classes
  pub class : (c : Class) → slice_get classes place.class ≡ Some c → place.member < items_of c
  pub is : class_item classes place.class + place.member ≡ item
