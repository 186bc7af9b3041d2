-- What a frame of the code is answered, as one of the machine (JVMS 6.5).
use Rattle.std.specs.Prelude.{◌≡◌, List, ℕ}
use Rattle.jvm_model.specs.Answers.{Answer as Due}
use Rattle.jvm_model.specs.Answers as due
use Rattle.jvm_model.specs.Heap.{Init, World as Whole}
use Rattle.run_heap.specs.Worlds.{world_of}
use Rattle.run_heap.specs.declared.answer.Answer.{Answer}
use Rattle.run_heap.specs.declared.answer.Answer.TheVariants as answer
use Rattle.run_heap.specs.declared.world.World.{World}
use Rattle.run_library.specs.Rows.{exception_of}

-- the answer, with the world after it
abbrev pub model_answer : Answer → Whole → Due
model_answer (answer.Gives v) w = due.Gives v w
model_answer (answer.Raises e) w = due.Raises (exception_of e)
model_answer (answer.Begins key args) w = due.Begins key args
model_answer answer.NoAnswer w = due.NoAnswer

-- the answer that is due in a world, which isn't changed
abbrev pub Answered : Answer → World → (Whole → Due) → Type 0
Answered a w d = (inits : List ℕ → Init) → model_answer a (world_of inits w) ≡ d (world_of inits w)

-- where an exception is due, a method begins or an operand is of another kind, the world is as it was
abbrev pub Keeps : Answer → (before after : World) → Type 0
Keeps (answer.Gives v) before after = Unit {0}
Keeps _ before after = (inits : List ℕ → Init) → world_of inits after ≡ world_of inits before

-- the answer that is due in a world, with the world after it
abbrev pub Changes : Answer → (before after : World) → (Whole → Due) → Type 0
Changes a before after d =
    ((inits : List ℕ → Init) → model_answer a (world_of inits after) ≡ d (world_of inits before)) × Keeps a before after
