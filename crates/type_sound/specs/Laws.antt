-- The laws of sets that are taken and whose methods are typed: they are sound, so no run that begins in one goes wrong.
use Rattle.std.specs.Prelude.{◌≡◌, ◌≢◌, ℕ, true, List, Some}
use Rattle.std.specs.List.{Contains}
use Rattle.class_model.specs.declared.class.Class.{Class}
use Rattle.jvm_model.specs.Heap.{Object}
use Rattle.jvm_model.specs.Program.{View}
use Rattle.jvm_model.specs.Same.{Names, Same}
use Rattle.jvm_model.specs.Start.{AreArguments, IsTypedHeap}
use Rattle.jvm_model.specs.State.{State, WentWrong, status}
use Rattle.jvm_model.specs.Step.{run, start, step}
use Rattle.jvm_model.specs.Value.{Key, Value}
use Rattle.set_view.specs.ViewOf.{is_startable, view_of}
use Rattle.type_verifier.specs.Verified.{AreTyped}
use Rattle.fit_laws.specs.Laws.{AlikeWhole}
use Rattle.fit_laws.specs.Sound.{IsSound}
use Rattle.fit_laws.specs.States.{Fits}
use Rattle.image_laws.specs.TakenSet.TakenSet.{IsTaken}

-- such a set has the facts that every move of the machine needs (JVMS 4.10, 5.3.5, 5.4.3 to 5.4.6)
abbrev pub TakenSound : Type 0
TakenSound = (classes : List Class) → IsTaken classes → AreTyped classes → IsSound classes

-- a step of the machine keeps what fits (JVMS 4.10.1, 6.5)
abbrev pub StepFits : Type 0
StepFits = (classes : List Class) → IsTaken classes → AreTyped classes → (s : State) → Fits classes s
    → Fits classes (step (view_of classes) s)

-- what a run may begin with: an entry, a heap and arguments that are typed (the project's own: what an entry is given)
pub record MayBegin (classes : List Class) (entry : Key) (heap : List Object) (args : List Value) : Type 0 where
  pub startable : is_startable classes entry ≡ true
  pub typed : IsTypedHeap heap
  pub right : AreArguments heap entry args

-- a run that begins so begins with a state that fits
abbrev pub StartFits : Type 0
StartFits = (classes : List Class) → IsTaken classes → AreTyped classes → (entry : Key) (heap : List Object)
    (args : List Value) → MayBegin classes entry heap args → Fits classes (start (view_of classes) entry heap args)

-- so no run that begins so goes wrong
abbrev pub NeverGoesWrong : Type 0
NeverGoesWrong = (classes : List Class) → IsTaken classes → AreTyped classes → (entry : Key) (heap : List Object)
    (args : List Value) → MayBegin classes entry heap args → (n : ℕ)
    → status (run (view_of classes) (start (view_of classes) entry heap args) n) ≢ WentWrong

-- Each of these entries has a new name, and from there the second program does the whole of what the set does from the
-- entry, whatever typed heap and whatever arguments of the parameters' types they are given: it gets as far as the set
-- does and goes no further, and neither goes wrong (the project's own).
abbrev pub DoesWhole : List Class → View → Names → List Key → Type 0
DoesWhole classes w names entries = (entry : Key) → Contains entries entry
    → (entry' : Key) × (names.method entry ≡ Some entry') × ((heap : List Object) (args : List Value)
    → MayBegin classes entry heap args
    → AlikeWhole (view_of classes) w names (start (view_of classes) entry heap args) (start w entry' heap args))

-- so does each program that does the same as such a set where this doesn't go wrong
abbrev pub SameWhole : Type 0
SameWhole = (classes : List Class) → IsTaken classes → AreTyped classes → (w : View) (names : Names)
    (entries : List Key) → Same (view_of classes) w names entries → DoesWhole classes w names entries
