-- What an argument puts on the heap (only the proof of the bodies needs it).
use Rattle.std.specs.Prelude.{◌≡◌, ℕ, ◌+◌, List, [], ◌∷◌, ◌++◌, length, map}
use Rattle.std.specs.List.{range_with_len}
use Rattle.class_run.specs.declared.ended.Arg.{Arg}
use Rattle.class_run.specs.declared.ended.Arg.TheVariants as arg
use Rattle.jvm_model.specs.Heap.{Array, Object as Thing, Str, string}
use Rattle.jvm_model.specs.Types.{class_type}
use Rattle.jvm_model.specs.Value.{Int, Long, Ref, Value}
use Rattle.run_heap.specs.Worlds.{object_of}
use Rattle.run_heap.specs.declared.world.Object.{Object}

-- its objects, where the first one has the number n
abbrev pub objects_by : ℕ → Arg → List Thing
objects_by n (arg.Int z) = []
objects_by n (arg.Long z) = []
objects_by n (arg.Text units) = Str units ∷ []
objects_by n (arg.Texts texts) =
    map Str texts ++ Array (class_type string) (map Ref (range_with_len n (length texts))) ∷ []

-- its value
abbrev pub value_by : ℕ → Arg → Value
value_by n (arg.Int z) = Int z
value_by n (arg.Long z) = Long z
value_by n (arg.Text units) = Ref n
value_by n (arg.Texts texts) = Ref (n + length texts)

-- these objects are put behind those before, and the value is this
abbrev pub Pushes : Value → (before after : List Object) → List Thing → Value → Type 0
Pushes value before after objects due = (map object_of after ≡ map object_of before ++ objects) × (value ≡ due)
