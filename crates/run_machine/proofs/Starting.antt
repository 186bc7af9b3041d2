-- The state with which a run begins.
use Rattle.std.proofs.Common.{◌≡◌, ◌∙◌, ℕ, List, [], ◌∷◌, ap}
use Rattle.jvm_model.specs.Heap.{Object as Thing, World as Whole}
use Rattle.jvm_model.specs.Initialisation.{state}
use Rattle.jvm_model.specs.Program.{View}
use Rattle.jvm_model.specs.State.{Initialises}
use Rattle.jvm_model.specs.Step.{first_init, first_world, start}
use Rattle.jvm_model.specs.Value.{Key, Value}
use Rattle.run_heap.specs.Worlds.{world_of}
use Rattle.run_heap.specs.declared.world.World.{World}
use Rattle.run_machine.specs.Inits.{init_at}
use Rattle.run_machine.specs.States.{waits_of}
use Rattle.run_machine.specs.declared.inits.Init.{Init}
use Rattle.run_machine.specs.declared.state.Wait.{Wait}
use Rattle.run_machine.specs.declared.state.Wait.TheVariants as wait

-- nothing was marked, and the entry waits for its class
pub started : (v : View) (entry : Key) (class : List ℕ) (marks : List (List ℕ × Init)) (waits : List Wait) (w : World)
    (heap : List Thing) (args : List Value) → marks ≡ [] → class ≡ entry.class → waits ≡ wait.ToEntry entry args ∷ []
    → world_of (first_init v.shape) w ≡ first_world v.shape heap
    → state (world_of (init_at v.shape marks) w) (Initialises class) (waits_of waits) ≡ start v entry heap args
started v entry class marks waits w heap args a b c d =
    ap (λ (ms : List (List ℕ × Init)). state (world_of (init_at v.shape ms) w) (Initialises class) (waits_of waits)) a
    ∙ ap (λ (n : List ℕ). state (world_of (init_at v.shape []) w) (Initialises n) (waits_of waits)) b
    ∙ ap (λ (ws : List Wait). state (world_of (init_at v.shape []) w) (Initialises entry.class) (waits_of ws)) c
    ∙ ap (λ (x : Whole). state x (Initialises entry.class) (waits_of (wait.ToEntry entry args ∷ []))) d
