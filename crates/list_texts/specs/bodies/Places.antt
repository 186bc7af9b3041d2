-- Where an item stands (only the proofs of bodies need it).
use Rattle.std.specs.Prelude.{◌≡◌, ◌<◌, ℕ, ◌+◌, Bool, false, List, length, Some, slice_get, slice_index_or}
use Rattle.class_model.specs.declared.class.Class.{Class}
use Rattle.class_pool.specs.Count.{item_count, items_of}
use Rattle.class_pool.specs.Items.{class_item}
use Rattle.list_texts.specs.ItemTexts.{is_among}
use Rattle.list_texts.specs.declared.items.Place.{Place}

-- the item is that of the class with the number, or of one of its members
pub record IsPlaceOf (classes : List Class) (item : ℕ) (place : Place) : Type 0 where
  pub there : place.class < length classes
  pub class : (c : Class) → slice_get classes place.class ≡ Some c → place.member < items_of c
  pub is : class_item classes place.class + place.member ≡ item

-- there is a mark for each item of the classes, and those are marked that stand in the list
pub record AreMarksOf (classes : List Class) (items : List ℕ) (marks : List Bool) : Type 0 where
  pub count : length marks ≡ item_count classes
  pub each : (x : ℕ) → x < item_count classes → slice_index_or marks x false ≡ is_among items x
