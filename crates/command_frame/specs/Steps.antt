-- What a step of a command finds, and how steps follow one another (the project's own: the command's answers are no part
-- of a standard).
use Rattle.std.specs.Prelude.{◌≡◌, ◌≤◌, ℕ, List, [], length, nat_le, Option, Some, None, Result, Ok, Err, IsErrOf}
use Rattle.std.specs.Prelude.{if◌then◌else◌}
use Rattle.std.specs.FinMap.{get}
use Rattle.tree_io.specs.Count.{Rose}
use Rattle.tree_io.specs.Files.{Files}
use Rattle.tree_io.specs.Runs.{AddsCalls, Sees}
use Rattle.tree_io.specs.declared.event.Event.{Event}
use Rattle.command_frame.specs.Refusal.{absent, absent_by, passed, quantity_limit}
use Rattle.command_frame.specs.declared.refusal.Quantity.{Quantity}
use Rattle.command_frame.specs.declared.refusal.Refusal.{Refusal}
use Rattle.command_frame.specs.declared.stop.Stop.{Stop}
use Rattle.command_frame.specs.declared.stop.Stop.TheVariants.{Refused, Device, OutOfMemory}

-- ---- what is due of steps

-- a step is refused, or another one follows it
pub data Then {A B : Type 0} (First : Result A Refusal → Type 0) (Next : A → Result B Refusal → Type 0)
    (due : Result B Refusal) : Type 0 where
  stops : (refusal : Refusal) → First (Err refusal) → due ≡ Err refusal → Then First Next due
  follows : (x : A) → First (Ok x) → Next x due → Then First Next due

-- the bytes of a file, which is there and has no more than its quantity may have
abbrev pub bytes_in : Quantity → List ℕ → Option (List ℕ) → Result (List ℕ) Refusal
bytes_in q path None = Err (absent path)
bytes_in q path (Some bytes) = if nat_le (length bytes) (quantity_limit q) then Ok bytes else Err (passed q)

-- those of a told file
abbrev pub IsFile : Files → Quantity → List ℕ → Result (List ℕ) Refusal → Type 0
IsFile files q path due = due ≡ bytes_in q path (get files path)

-- ---- what was found

-- what is met of a tree: told files, how often its device has failed, and every call with its answer
pub record Seen : Type 0 where
  pub files : Option Files
  pub faults : ℕ
  pub calls : List Event

abbrev pub seen : Option Files → ℕ → List Event → Seen
seen files faults calls = record { files = files; faults = faults; calls = calls }

-- what was found is due, or a refusal is, unless the device failed or memory was wanting
abbrev pub Told : {A : Type 0} → Result A Stop → (Result A Refusal → Type 0) → Type 0
Told (Ok x) IsDue = IsDue (Ok x)
Told (Err (Refused refusal)) IsDue = IsDue (Err refusal)
Told (Err Device) IsDue = Unit {0}
Told (Err OutOfMemory) IsDue = Unit {0}

-- the paths at which no file was found to read; where memory was wanting they aren't told
abbrev pub missed_by : Stop → Option (List (List ℕ))
missed_by (Refused refusal) = Some (absent_by refusal)
missed_by Device = Some []
missed_by OutOfMemory = None

abbrev pub missed : {A : Type 0} → Result A Stop → Option (List (List ℕ))
missed (Ok x) = Some []
missed (Err stop) = missed_by stop

-- no file changed, a device is blamed only where its count rose, and calls that read alone found what is due of all
-- files that they fit
pub record Finds {A : Type 0} (result : Result A Stop) (IsDue : Files → Result A Refusal → Type 0)
    (before after : Seen) : Type 0 where
  pub files : after.files ≡ before.files
  pub later : before.faults ≤ after.faults
  pub device : IsErrOf result Device → Rose before.faults after.faults
  pub found : AddsCalls before.calls after.calls before.files after.files
      (Sees (missed result) (λ files. Told result (IsDue files)))

-- a step that asks nothing of the tree made what is due, or a refusal is, which names no path at which there is no file
abbrev pub Makes : {A : Type 0} → Result A Stop → (Result A Refusal → Type 0) → Type 0
Makes (Ok x) IsDue = IsDue (Ok x)
Makes (Err (Refused refusal)) IsDue = (absent_by refusal ≡ []) × IsDue (Err refusal)
Makes (Err Device) IsDue = ⊥
Makes (Err OutOfMemory) IsDue = Unit {0}
