-- Storing into arrays (JVMS 6.5.aastore and the like).
use Rattle.std.specs.Prelude.{◌≡◌, ℕ, Bool, List, Option, Some, None, slice_set, if◌then◌else◌}
use Rattle.jv_base.specs.declared.types.FieldType.{FieldType}
use Rattle.jvm_model.specs.Answers.{Answer, NoAnswer, Raises}
use Rattle.jvm_model.specs.Arrays.{if_storable}
use Rattle.jvm_model.specs.Exceptions.{ArrayStore}
use Rattle.jvm_model.specs.Heap.{Array, Init, Object as Thing}
use Rattle.jvm_model.specs.Program.{Shape}
use Rattle.jvm_model.specs.Types.{stored}
use Rattle.jvm_model.specs.Value.{Value}
use Rattle.run_heap.specs.Worlds.{world_of}
use Rattle.run_heap.specs.declared.world.World.{World}

-- an array with another component, any other object as it is
abbrev pub with_component : Thing → ℕ → Value → Thing
with_component (Array component values) at v = Array component (slice_set values at (stored component v))
with_component o at v = o

-- the answer that is due where the value may be stored, or the one in place of it
abbrev pub storing_answer : Option Bool → Answer → Answer
storing_answer None a = NoAnswer
storing_answer (Some is_of) a = if is_of then a else Raises ArrayStore

-- whether the value may be stored
abbrev pub IsStorable : Shape → Option Bool → World → FieldType → Value → Type 0
IsStorable p result w component v = (inits : List ℕ → Init) (a : Answer)
    → storing_answer result a ≡ if_storable p (world_of inits w) component v a
