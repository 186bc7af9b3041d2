-- What a command meets outside and what it says (the project's own: the command's answers are no part of a standard).
use Rattle.std.specs.Prelude.{◌≡◌, ◌⊎◌, ◌≤◌, ℕ, List, [], ◌∷◌, ◌++◌, Option, Result, Ok, Err, codes}
use Rattle.tree_io.specs.Files.{Files}
use Rattle.tree_io.specs.Sink.{Takes}
use Rattle.tree_io.specs.declared.event.Event.{Event}
use Rattle.tree_io.specs.declared.event.Event.TheVariants.{Put}
use Rattle.tree_io.specs.declared.faults.PutFault.{PutFault}
use Rattle.tree_io.specs.declared.faults.PutFault.TheVariants as sink

-- what was put to a sink: told text, how often its device has failed, and every call with its answer
pub record Output : Type 0 where
  pub text : Option (List ℕ)
  pub faults : ℕ
  pub calls : List Event

abbrev pub output : Option (List ℕ) → ℕ → List Event → Output
output text faults calls = record { text = text; faults = faults; calls = calls }

-- what a run meets outside: told files, how often the tree's device has failed, every call of the tree with its answer,
-- and the sink
pub record Outside : Type 0 where
  pub files : Option Files
  pub file_faults : ℕ
  pub calls : List Event
  pub out : Output

abbrev pub outside : Option Files → ℕ → List Event → Output → Outside
outside files file_faults calls out = record { files = files; file_faults = file_faults; calls = calls; out = out }

-- a text was handed to the sink, which gave this answer
abbrev pub Hands : List ℕ → Result (Unit {0}) PutFault → Output → Output → Type 0
Hands text answer old new = (new.calls ≡ old.calls ++ Put text answer ∷ [])
    × Takes answer text old.text new.text old.faults new.faults

-- the text was handed to the sink, once: it took all; or a front, where its count of faults rose; or nothing, where
-- memory was wanting
abbrev pub Puts : List ℕ → Output → Output → Type 0
Puts text old new = (answer : Result (Unit {0}) PutFault) × Hands text answer old new

-- the text was handed to the sink, whose device failed at it, and then the line of a failed device
pub record FailsSo (text : List ℕ) (old new : Output) : Type 0 where
  pub mid : Output
  pub handed : Hands text (Err sink.Failed) old mid
  pub line : Puts (codes "error 7 device\n") mid new
  pub later : mid.faults ≤ new.faults

-- the text was handed to the sink, which wanted memory for it, and then the line of want of memory
pub record LacksSo (text : List ℕ) (old new : Output) : Type 0 where
  pub mid : Output
  pub handed : Hands text (Err sink.OutOfMemory) old mid
  pub line : Puts (codes "error 10 memory\n") mid new

-- a line was handed to the sink, and the status is this one
abbrev pub SaysLine : ℕ → List ℕ → ℕ → Output → Output → Type 0
SaysLine due line status old new = (status ≡ due) × Puts line old new

-- the text was said whole; or its device failed; or memory was wanting
abbrev pub SaysText : List ℕ → ℕ → Output → Output → Type 0
SaysText text status old new =
    ((status ≡ 0) × Hands text (Ok tt) old new)
    ⊎ (((status ≡ 7) × FailsSo text old new) ⊎ ((status ≡ 10) × LacksSo text old new))
