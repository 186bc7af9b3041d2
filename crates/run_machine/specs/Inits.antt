-- How far the initialisation of classes is, as the machine has it (JVMS 5.5).
use Rattle.std.specs.Prelude.{ℕ, List, [], ◌∷◌, if◌then◌else◌}
use Rattle.jv_base.specs.Names.{is_text}
use Rattle.jvm_model.specs.Heap.{Init as Seen}
use Rattle.jvm_model.specs.Heap as heap
use Rattle.jvm_model.specs.Program.{Shape}
use Rattle.jvm_model.specs.Step.{first_init}
use Rattle.run_machine.specs.declared.inits.Init.{Init}
use Rattle.run_machine.specs.declared.inits.Init.TheVariants as init

-- how far it is
abbrev pub init_of : Init → Seen
init_of init.Fresh = heap.Fresh
init_of init.Begun = heap.Begun
init_of init.Ready = heap.Ready
init_of init.Failed = heap.Failed

-- how far that of each class is: what was marked of it, and at first that of the classes of the library has ended
abbrev pub init_at : Shape → List (List ℕ × Init) → List ℕ → Seen
init_at p [] class = first_init p class
init_at p (m ∷ ms) class = if is_text class m.0 then init_of m.1 else init_at p ms class
