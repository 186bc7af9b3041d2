-- The laws of steps, from the facts on the set.
use Rattle.std.specs.Prelude.{◌≢◌, ◌≤◌, ℕ, List}
use Rattle.class_model.specs.declared.class.Class.{Class}
use Rattle.jvm_model.specs.Heap.{World}
use Rattle.jvm_model.specs.Local.{local}
use Rattle.jvm_model.specs.Program.{View}
use Rattle.jvm_model.specs.Same.{Alike, Corr, CorrEnd, Names}
use Rattle.jvm_model.specs.State.{Frame, State, WentWrong, status}
use Rattle.jvm_model.specs.Step.{run, step}
use Rattle.set_view.specs.ViewOf.{view_of}
use Rattle.fit_laws.specs.Answered.{FitsLocal}
use Rattle.fit_laws.specs.Frames.{FitsFrame}
use Rattle.fit_laws.specs.Sound.{IsSound}
use Rattle.fit_laws.specs.States.{Fits}
use Rattle.fit_laws.specs.Values.{FitsWorld}

-- what each frame that fits does at its instruction fits (JVMS 4.10.1.6, 6.5)
abbrev pub LocalsFit : List Class → Type 0
LocalsFit classes = (w : World) → FitsWorld classes w → (f : Frame) (a : FitsFrame classes w.heap f)
    → FitsLocal classes w f.method a.stands.env a.stands.is.frames f.body (local a.stands.env.code f.body)

-- so it is by the facts on the set, whatever the instruction
abbrev pub InstructionsFit : Type 0
InstructionsFit = (classes : List Class) → IsSound classes → LocalsFit classes

-- a step of the machine keeps what fits
abbrev pub StepsFit : Type 0
StepsFit = (classes : List Class) → IsSound classes → (s : State) → Fits classes s
    → Fits classes (step (view_of classes) s)

-- so no run from a state that fits goes wrong
abbrev pub NeverWrong : Type 0
NeverWrong = (classes : List Class) → IsSound classes → (s : State) → Fits classes s → (n : ℕ)
    → status (run (view_of classes) s n) ≢ WentWrong

-- from two states the second program gets as far as the first and goes no further, without an exception
pub record AlikeWhole (v w : View) (names : Names) (a b : State) : Type 0 where
  pub as_far : (n : ℕ) → (k : ℕ) × (k ≤ n) × CorrEnd names (run v a n) (run w b k)
  pub no_further : (k : ℕ) → (n : ℕ) × (k ≤ n) × Corr v w names (run v a n) (run w b k)

-- so it is where both are alike and the first never goes wrong
abbrev pub WholeAlike : Type 0
WholeAlike = (v w : View) (names : Names) (a b : State) → Alike v w names a b
    → ((n : ℕ) → status (run v a n) ≢ WentWrong) → AlikeWhole v w names a b
