-- Whether the object of a reference is of a type (JLS 4.10.2, 4.10.3; only the proof of the bodies needs it).
use Rattle.std.specs.Prelude.{◌≡◌, ℕ, Bool, List, Option, Some, None, if◌then◌else◌}
use Rattle.std.specs.Option.{option_map}
use Rattle.jv_base.specs.declared.types.FieldType.{FieldType}
use Rattle.jvm_model.specs.Answers.{Answer, Gives, NoAnswer, Raises}
use Rattle.jvm_model.specs.Exceptions.{ClassCast}
use Rattle.jvm_model.specs.Heap.{Init, World as Whole, object_of, type_of}
use Rattle.jvm_model.specs.Program.{Shape}
use Rattle.jvm_model.specs.Types.{is_type_below}
use Rattle.jvm_model.specs.Value.{Value, truth}
use Rattle.run_heap.specs.Worlds.{world_of}
use Rattle.run_heap.specs.declared.world.World.{World}

-- whether it is, where the value refers to an object
abbrev pub kin : Shape → Whole → Value → FieldType → Option Bool
kin p w v ty = option_map (λ o. is_type_below p.is_sub (type_of o) ty) (object_of w v)

-- it is so
abbrev pub IsKin : Shape → Option Bool → World → Value → FieldType → Type 0
IsKin p result w v ty = (inits : List ℕ → Init) → result ≡ kin p (world_of inits w) v ty

-- what a cast of a value that isn't null is answered
abbrev pub cast_answer : Whole → Value → Option Bool → Answer
cast_answer w v None = NoAnswer
cast_answer w v (Some is_kin) = if is_kin then Gives (Some v) w else Raises ClassCast

-- what a test of a value that isn't null is answered
abbrev pub test_answer : Whole → Option Bool → Answer
test_answer w None = NoAnswer
test_answer w (Some is_kin) = Gives (Some (truth is_kin)) w
