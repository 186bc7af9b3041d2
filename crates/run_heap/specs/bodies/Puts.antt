-- An object with another value of a field (only the proof of the bodies needs it).
use Rattle.std.specs.Prelude.{◌≡◌, Bool, true, false}
use Rattle.jvm_model.specs.Heap.{Instance, Object as Thing}
use Rattle.jvm_model.specs.Value.{Key, Value, set_key}
use Rattle.run_heap.specs.Worlds.{object_of}
use Rattle.run_heap.specs.declared.world.Object.{Object}

-- the object is an instance
abbrev pub is_instance : Thing → Bool
is_instance (Instance class fields message cause) = true
is_instance _ = false

-- an instance with another value of a field, any other object as it is
abbrev pub with_field : Thing → Key → Value → Thing
with_field (Instance class fields message cause) key v = Instance class (set_key fields key v) message cause
with_field o key v = o

-- the field was set where the object is an instance, and else it is as it was
abbrev pub Puts : Bool → (before after : Object) → Value → Key → Type 0
Puts done before after v key =
    (done ≡ is_instance (object_of before)) × (object_of after ≡ with_field (object_of before) key v)
