-- What workers make of the jobs of a batch (only the proofs of bodies need it).
use Rattle.std.specs.Prelude.{◌≡◌, ◌≤◌, ◌<◌, ℕ, List, [], ◌∷◌, Option, Some, None, Result, Ok, Err, length, slice_get, slice_index_or}
use Rattle.std.specs.List.{All, AllZip, sum_by}
use Rattle.tree_io.specs.Files.{Files}
use Rattle.tree_io.specs.declared.file_at.FileAt.{FileAt}
use Rattle.class_files.specs.Input.{total}
use Rattle.command_frame.specs.Refusal.{passed}
use Rattle.command_frame.specs.declared.command.Plan.{Plan}
use Rattle.command_frame.specs.declared.refusal.Quantity.TheVariants as quantity
use Rattle.command_frame.specs.declared.refusal.Refusal.{Refusal}
use Rattle.command_frame.specs.declared.stop.Stop.{Stop}
use Rattle.command_frame.specs.declared.stop.Stop.TheVariants.{Refused}
use Rattle.batch_command.specs.Jobs.{AreClassFiles, EachBefore, JobInput, Parts, input_of}
use Rattle.batch_command.specs.declared.board.Made.{Made}
use Rattle.batch_command.specs.declared.board.Member.{Member}
use Rattle.batch_command.specs.declared.work.JobConfig.{JobConfig}

-- ---- class files

-- the class files that are due of a job, where it has a config
abbrev pub IsFound : Parts → Files → Result JobConfig Refusal → Result (List FileAt) Refusal → Type 0
IsFound parts files (Ok config) = parts.input files config.rules
IsFound parts files (Err refusal) = λ due. due ≡ Err refusal

abbrev pub AreTaken : Result (List FileAt) Refusal → Type 0
AreTaken (Ok files) = AreClassFiles files
AreTaken (Err refusal) = Unit {0}

-- the bytes that these have together
abbrev pub bytes_of : Result (List FileAt) Refusal → ℕ
bytes_of (Ok files) = total files
bytes_of (Err refusal) = 0

abbrev pub bytes_in : List (Result (List FileAt) Refusal) → ℕ
bytes_in found = sum_by bytes_of found

-- the class files of all jobs, which have together at most 64 MiB; or the first ones have more
abbrev pub AreFound : Parts → Files → List (Result JobConfig Refusal)
    → Result (List (Result (List FileAt) Refusal)) Refusal → Type 0
AreFound parts files configs (Ok found) =
    AllZip (IsFound parts files) configs found × (bytes_in found ≤ 67108864)
AreFound parts files configs (Err refusal) = (refusal ≡ passed quantity.Batch)
    × ((rest : List (Result JobConfig Refusal)) × (found : List (Result (List FileAt) Refusal))
    × EachBefore (IsFound parts files) configs rest (Ok found) × (67108864 < bytes_in found))

-- ---- inputs

-- what was read of a job, by its config and its class files
abbrev pub input_in : Result JobConfig Refusal → Result (List FileAt) Refusal → Result JobInput Refusal
input_in config (Err refusal) = Err refusal
input_in (Ok config) (Ok files) = Ok (input_of config files)
input_in (Err refusal) (Ok files) = Err refusal

abbrev pub inputs_in : List (Result JobConfig Refusal) → List (Result (List FileAt) Refusal)
    → List (Result JobInput Refusal)
inputs_in [] found = []
inputs_in (config ∷ configs) [] = []
inputs_in (config ∷ configs) (files ∷ found) = input_in config files ∷ inputs_in configs found

-- ---- what was made

-- this is due of the class files, with the config of the job
abbrev pub IsMadeOf : Parts → Option (Result JobConfig Refusal) → List FileAt → Result Plan Refusal → Type 0
IsMadeOf parts (Some (Ok config)) files = parts.plan (input_of config files)
IsMadeOf parts (Some (Err refusal)) files = λ due. ⊥
IsMadeOf parts None files = λ due. ⊥

-- so it is of what a worker made of a job
abbrev pub IsMade : Parts → List (Result JobConfig Refusal) → Made → Type 0
IsMade parts configs made = IsMadeOf parts (slice_get configs made.number) made.files made.answer

-- so it is of all that this worker made
abbrev pub MakesDue : Parts → List (Result JobConfig Refusal) → Member → Type 0
MakesDue parts configs member = All (IsMade parts configs) member.made.items

-- it made nothing yet
abbrev pub IsFresh : Member → Type 0
IsFresh member = member.made.items ≡ []

-- what was made of the job of this number stands at this place
abbrev pub IsPlaceOf : ℕ → List Made → ℕ → Type 0
IsPlaceOf number made at = (at < length made) × ((one : Made) → (slice_index_or made at one).number ≡ number)

-- an answer, a refusal of it as such
abbrev pub given : Result Plan Refusal → Result Plan Stop
given (Ok plan) = Ok plan
given (Err refusal) = Err (Refused refusal)
