-- What is known of the classes above one while the classes are gone over (only the proof of system_of needs it).
use Rattle.std.specs.Prelude.{◌≡◌, ℕ, ◌<◌, true, IsTrue, List, Some, length, slice_get, slice_index_or}
use Rattle.class_model.specs.declared.class.Class.{Class}
use Rattle.class_pool.specs.Items.{class_item}
use Rattle.class_pool.specs.Resolution.{is_class_below}
use Rattle.class_pool.specs.Walk.{superclasses_from}
use Rattle.class_pool.specs.declared.id.ClassId.TheVariants.{Prog}
use Rattle.method_places.specs.bodies.Alike.{AreRows}
use Rattle.method_places.specs.bodies.Nearest.{AreNoted, AreUpTo, front_rows}
use Rattle.method_places.specs.bodies.Places.{HavePlaces}
use Rattle.item_numbers.specs.bodies.Tops.{AreAbove}
use Rattle.override_pairs.specs.bodies.Free.{HasFree}
use Rattle.override_pairs.specs.declared.pairs.Above.{Above}
use Rattle.override_pairs.specs.declared.pairs.ClassAbove.{ClassAbove}
use Rattle.override_pairs.specs.declared.receiver.Receiver.{Receiver}

-- each class is so many steps above the one that is given for it
pub record AreSteps (classes : List Class) (below steps : List ℕ) : Type 0 where
  pub count : length steps ≡ length classes
  pub each : (n : ℕ) → n < length classes
      → slice_get (superclasses_from classes (Prog (slice_index_or below n 0))) (slice_index_or steps n 0)
      ≡ Some (Prog n)

-- each class is one that is given for it or above that, and no note is for a class from this one on
pub record IsAbove (classes : List Class) (number : ℕ) (above : Above) : Type 0 where
  pub below : AreAbove classes above.below.items
  pub steps : AreSteps classes above.below.items above.steps.items
  pub notes : AreUpTo number above.notes.items
  pub placed : AreUpTo number above.placed.items
  pub opening : AreUpTo number above.opening.items
  pub freed : AreUpTo number above.freed.items

-- what a receiver has is so, and the nearest methods from its class upwards are noted
pub record IsReceiver (receiver : Receiver) : Type 0 where
  pub there : receiver.class < length receiver.numbered.now.set.now
  pub rows : AreRows receiver.numbered.now.set.now receiver.table.now
  pub below : AreAbove receiver.numbered.now.set.now receiver.below.now
  pub steps : AreSteps receiver.numbered.now.set.now receiver.below.now receiver.steps.now
  pub noted : AreNoted receiver.stamp
      (front_rows receiver.table.now (superclasses_from receiver.numbered.now.set.now (Prog receiver.class)))
      receiver.notes.now
  pub places : HavePlaces receiver.numbered.now.set.now receiver.table.now receiver.places.now
  pub placed : AreNoted receiver.stamp
      (front_rows receiver.places.now.each (superclasses_from receiver.numbered.now.set.now (Prog receiver.class)))
      receiver.placed.now
  pub opening : AreNoted receiver.stamp
      (front_rows receiver.places.now.opening (superclasses_from receiver.numbered.now.set.now (Prog receiver.class)))
      receiver.opening.now
  pub free : HasFree receiver.table.now receiver.free.now
  pub freed : AreNoted receiver.stamp
      (front_rows receiver.free.now.rows (superclasses_from receiver.numbered.now.set.now (Prog receiver.class)))
      receiver.freed.now

-- it is as it is said of a class above another one, whose pairs are found
pub record IsClassAbove (receiver : Receiver) (above : ClassAbove) : Type 0 where
  pub there : above.number < length receiver.numbered.now.set.now
  pub known : IsTrue above.is_known
      → is_class_below receiver.numbered.now.set.now (Prog receiver.class) (Prog above.number) ≡ true
  pub own : above.own < length receiver.numbered.now.set.now
  pub item : above.item ≡ class_item receiver.numbered.now.set.now above.own
