-- What storing into an array comes to (JVMS 6.5.aastore and the like; only the proof of the bodies needs it).
use Rattle.std.specs.Prelude.{◌≡◌, ℕ, ℤ, List, None, length}
use Rattle.class_model.specs.declared.op.Elem.{Elem}
use Rattle.jv_base.specs.declared.types.FieldType.{FieldType}
use Rattle.jvm_model.specs.Answers.{Answer, Gives, NoAnswer, Raises}
use Rattle.jvm_model.specs.Arrays.{at_index, if_storable, put_in, put_value}
use Rattle.jvm_model.specs.Heap.{Array, Init, Object as Thing, World as Whole, with_object}
use Rattle.jvm_model.specs.Program.{Shape}
use Rattle.jvm_model.specs.Value.{Value}
use Rattle.run_heap.specs.bodies.Storing.{with_component}
use Rattle.run_heap.specs.Worlds.{world_of}
use Rattle.run_heap.specs.declared.storing.Verdict.{Verdict}
use Rattle.run_heap.specs.declared.storing.Verdict.TheVariants as verdict
use Rattle.run_heap.specs.declared.world.World.{World}
use Rattle.run_library.specs.Rows.{exception_of}

-- the answer, where the object with a number is this one
abbrev pub answer_of : Verdict → Whole → ℕ → Thing → Value → Answer
answer_of (verdict.Puts at) w n o v = Gives None (with_object w n (with_component o at v))
answer_of (verdict.Raises e) w n o v = Raises (exception_of e)
answer_of verdict.NoAnswer w n o v = NoAnswer

-- it is the one that is due
abbrev pub Judges : Shape → Verdict → World → Thing → Elem → ℤ → Value → Type 0
Judges p result w o e i v = (inits : List ℕ → Init) (n : ℕ)
    → answer_of result (world_of inits w) n o v ≡ put_in p (world_of inits w) e i v n o

-- the same of an array that the instruction works with
abbrev pub JudgesComponent : Shape → Verdict → World → FieldType → List Value → ℤ → Value → Type 0
JudgesComponent p result w component values i v = (inits : List ℕ → Init) (n : ℕ)
    → answer_of result (world_of inits w) n (Array component values) v
    ≡ at_index i (length values)
    (λ k. if_storable p (world_of inits w) component v (put_value (world_of inits w) n component values k v))
