-- Objects and the heap of the code as those of the machine (JVMS 2.4, 2.5.3).
use Rattle.std.specs.Prelude.{◌≡◌, List, [], ◌∷◌, ◌++◌, length, map, ℕ}
use Rattle.jvm_model.specs.Heap.{Init, Object as Thing, World as Whole}
use Rattle.jvm_model.specs.Heap as heap
use Rattle.jvm_model.specs.Value.{Ref, Value}
use Rattle.run_heap.specs.Held.{held}
use Rattle.run_heap.specs.declared.world.Object.{Object}
use Rattle.run_heap.specs.declared.world.Object.TheVariants as object
use Rattle.run_heap.specs.declared.world.World.{World}

-- the object
abbrev pub object_of : Object → Thing
object_of (object.Instance i) = heap.Instance i.class (held i.fields) i.message i.cause
object_of (object.Array component values) = heap.Array component values.items
object_of (object.Text units) = heap.Str units
object_of (object.Builder units) = heap.Builder units.items

-- the world, with how far the initialisation of each class is, which is kept elsewhere
abbrev pub world_of : (List ℕ → Init) → World → Whole
world_of inits w =
    record {
      heap = map object_of w.heap.items;
      statics = held w.statics;
      inits = inits;
      printed = w.printed.items;
    }

-- the object is one more on the heap, and the reference is to it
abbrev pub Adds : Value → (before after : World) → Object → Type 0
Adds reference before after o =
    (reference ≡ Ref (length before.heap.items)) × (after.heap.items ≡ before.heap.items ++ o ∷ [])
    × (after.statics ≡ before.statics) × (after.printed.items ≡ before.printed.items)
