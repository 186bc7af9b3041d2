-- The next class that has to be initialised first (JVMS 5.5, step 7; only the proof of the bodies needs it).
use Rattle.std.specs.Prelude.{◌≡◌, ℕ, List, [], ◌∷◌, Option, Some, None}
use Rattle.jvm_model.specs.Heap.{World as Whole}
use Rattle.jvm_model.specs.Initialisation.{prepare, state}
use Rattle.jvm_model.specs.Program.{Shape}
use Rattle.jvm_model.specs.State.{AfterFirst, Initialises, Wait as Waiting}
use Rattle.run_machine.specs.Inits.{init_at}
use Rattle.run_machine.specs.declared.inits.Init.{Init}

-- what a class is prepared by, in each world in which classes are so far
abbrev pub Prepared : Shape → List (List ℕ × Init) → (Whole → (class : List ℕ) → List Waiting → Type 0) → Type 0
Prepared p marks P = (w : Whole) (class : List ℕ) (ws : List Waiting) → w.inits ≡ init_at p marks → P w class ws

-- it is the next one, and those are the others; or there is none
abbrev pub IsNext : Shape → List (List ℕ × Init) → Option (List ℕ) → (before after : List (List ℕ)) → Type 0
IsNext p marks None before after = Prepared p marks
    (λ w class ws. prepare p w class before ws ≡ prepare p w class [] ws)
IsNext p marks (Some first) before after = Prepared p marks
    (λ w class ws. prepare p w class before ws ≡ state w (Initialises first) (AfterFirst class after ∷ ws))
