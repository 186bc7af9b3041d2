-- What steps find that go on where a job is refused (the project's own: the command's answers are no part of a
-- standard).
use Rattle.std.specs.Prelude.{◌≡◌, ◌≤◌, List, [], Result, Ok, Err, IsErrOf}
use Rattle.tree_io.specs.Count.{Rose}
use Rattle.tree_io.specs.Event.{files_to_write, without_memory}
use Rattle.tree_io.specs.Files.{Files}
use Rattle.tree_io.specs.Runs.{AddsCalls, Run}
use Rattle.tree_io.specs.declared.event.Event.{Event}
use Rattle.command_frame.specs.Steps.{Seen}
use Rattle.command_frame.specs.declared.refusal.Refusal.{Refusal}
use Rattle.command_frame.specs.declared.stop.Stop.{Stop}
use Rattle.command_frame.specs.declared.stop.Stop.TheVariants.{Refused, Device, OutOfMemory}

-- calls wrote nothing, had memory, and this holds of all files that they fit
pub record Shows (Holds : Files → Type 0) (calls : List Event) : Type 0 where
  pub wrote : files_to_write calls ≡ []
  pub had_memory : without_memory calls ≡ []
  pub holds : (files left : Files) → Run calls files left → Holds files

-- what was found is due of them, or a refusal is, unless the device failed; where memory was wanting no more is said than
-- that nothing was written
abbrev pub Showed : {A : Type 0} → Result A Stop → (Files → Result A Refusal → Type 0) → List Event → Type 0
Showed (Ok x) IsDue = Shows (λ files. IsDue files (Ok x))
Showed (Err (Refused refusal)) IsDue = Shows (λ files. IsDue files (Err refusal))
Showed (Err Device) IsDue = Shows (λ files. Unit {0})
Showed (Err OutOfMemory) IsDue = λ calls. files_to_write calls ≡ []

-- no file changed, a device is blamed only where its count rose, and calls that read alone found what is due of all
-- files that they fit. Unlike of `Finds`, the paths are free at which there was no file: each job has its own
pub record FindsAll {A : Type 0} (result : Result A Stop) (IsDue : Files → Result A Refusal → Type 0)
    (before after : Seen) : Type 0 where
  pub files : after.files ≡ before.files
  pub later : before.faults ≤ after.faults
  pub device : IsErrOf result Device → Rose before.faults after.faults
  pub found : AddsCalls before.calls after.calls before.files after.files (Showed result IsDue)

-- a step that asks nothing of the tree made what is due, or a refusal is
abbrev pub MakesAll : {A : Type 0} → Result A Stop → (Result A Refusal → Type 0) → Type 0
MakesAll (Ok x) IsDue = IsDue (Ok x)
MakesAll (Err (Refused refusal)) IsDue = IsDue (Err refusal)
MakesAll (Err Device) IsDue = ⊥
MakesAll (Err OutOfMemory) IsDue = Unit {0}

-- what is due of one job, a refusal of it among the rest
abbrev pub Caught : {A : Type 0} → (Result A Refusal → Type 0) → Result (Result A Refusal) Refusal → Type 0
Caught IsDue (Ok answer) = IsDue answer
Caught IsDue (Err refusal) = ⊥
