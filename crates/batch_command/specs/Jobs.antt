-- What is due of each job of a batch, and of all of them, of told files (the project's own: what the command promises).
use Rattle.std.specs.Prelude.{◌≡◌, ◌≤◌, ◌<◌, ◌+◌, ℕ, List, [], ◌∷◌, ◌++◌, map, Option, Some, None, Result, Ok, Err}
use Rattle.std.specs.Prelude.{codes, IfSome}
use Rattle.std.specs.Fmt.{decimal}
use Rattle.std.specs.List.{AllZip, sum_by}
use Rattle.tree_io.specs.Below.{IsAscending}
use Rattle.tree_io.specs.Files.{Files}
use Rattle.tree_io.specs.declared.file_at.FileAt.{FileAt}
use Rattle.class_files.specs.Input.{total}
use Rattle.keep_rules.specs.Paths.{before_texts, files_of}
use Rattle.keep_rules.specs.declared.rules.Rules.{Rules}
use Rattle.mapping_file.specs.Mappings.{IsMapping}
use Rattle.batch_list.specs.List.{list_read}
use Rattle.batch_list.specs.Overlap.{first_overlap}
use Rattle.batch_list.specs.declared.line.JobFiles.{JobFiles}
use Rattle.batch_list.specs.declared.list.ListFault.{ListFault}
use Rattle.batch_list.specs.declared.list.ListFault.TheVariants.{BadLine, TooMany}
use Rattle.batch_list.specs.declared.overlap.JobPaths.{JobPaths}
use Rattle.command_frame.specs.Refusal.{passed, text_refused}
use Rattle.command_frame.specs.Steps.{IsFile, Then}
use Rattle.command_frame.specs.declared.command.Plan.{Plan}
use Rattle.command_frame.specs.declared.refusal.Quantity.TheVariants as quantity
use Rattle.command_frame.specs.declared.refusal.Reason.TheVariants.{Overlap}
use Rattle.command_frame.specs.declared.refusal.Refusal.{Refusal}
use Rattle.batch_command.specs.declared.work.JobConfig.{JobConfig}

-- ---- one job

-- a job of which all was read: its config and its class files
pub record JobInput : Type 0 where
  pub config : JobConfig
  pub inputs : List FileAt

-- what is due of each part of a job: its config with the earlier mapping that it names, the class files that its rules
-- name, and its plan
pub record Parts : Type 1 where
  pub config : Files → JobFiles → Result JobConfig Refusal → Type 0
  pub input : Files → Rules → Result (List FileAt) Refusal → Type 0
  pub plan : JobInput → Result Plan Refusal → Type 0

abbrev pub input_of : JobConfig → List FileAt → JobInput
input_of config inputs = record { config = config; inputs = inputs }

-- what a job is to write and to say, or its first refusal
abbrev pub IsJob : Parts → Files → JobFiles → Result Plan Refusal → Type 0
IsJob parts files job = Then (parts.config files job)
    (λ config. Then (parts.input files config.rules) (λ inputs. parts.plan (input_of config inputs)))

-- ---- the list

abbrev pub list_refused : ListFault → Refusal
list_refused (BadLine line) = text_refused line (codes "BadLine")
list_refused TooMany = passed quantity.Jobs

abbrev pub or_bad_list : Result (List JobFiles) ListFault → Result (List JobFiles) Refusal
or_bad_list (Ok jobs) = Ok jobs
or_bad_list (Err fault) = Err (list_refused fault)

-- the jobs that bytes list, or the first line that is at fault, or that there are more than 64
abbrev pub AreJobs : List ℕ → Result (List JobFiles) Refusal → Type 0
AreJobs bytes due = due ≡ or_bad_list (list_read bytes)

-- so it is of the told file at a path
abbrev pub AreListed : Files → List ℕ → Result (List JobFiles) Refusal → Type 0
AreListed files list = Then (IsFile files quantity.Config list) AreJobs

-- ---- configs

-- what is due of each of these is told, a refusal of it among the rest
abbrev pub Each : {X Y : Type 0} → (X → Result Y Refusal → Type 0) → List X
    → Result (List (Result Y Refusal)) Refusal → Type 0
Each IsDue xs (Ok ys) = AllZip IsDue xs ys
Each IsDue xs (Err refusal) = ⊥

-- what is due of the first of these is told, those before the rest
abbrev pub EachBefore : {X Y : Type 0} → (X → Result Y Refusal → Type 0) → List X → List X
    → Result (List (Result Y Refusal)) Refusal → Type 0
EachBefore {X} IsDue all rest (Ok ys) = (done : List X) × (done ++ rest ≡ all) × AllZip IsDue done ys
EachBefore IsDue all rest (Err refusal) = ⊥

-- the earlier mapping of a job, if it applies one, can be a text
abbrev pub HasNames : JobConfig → Type 0
HasNames config = IfSome config.earlier IsMapping

abbrev pub IsNamed : Result JobConfig Refusal → Type 0
IsNamed (Ok config) = HasNames config
IsNamed (Err refusal) = Unit {0}

-- ---- paths

-- what a job reads and writes, which stands on this line of the list
abbrev pub paths_of : ℕ → JobConfig → JobPaths
paths_of line config = record {
  line = line;
  reads = config.files.config ∷ config.rules.in_dir ∷ before_texts config.rules.apply [];
  writes = config.rules.out_dir ∷ files_of config.rules config.files.witness;
}

-- those of the jobs that have a config, of which the first stands on this line
abbrev pub paths_from : ℕ → List (Result JobConfig Refusal) → List JobPaths
paths_from line [] = []
paths_from line (Ok config ∷ configs) = paths_of line config ∷ paths_from (line + 1) configs
paths_from line (Err refusal ∷ configs) = paths_from (line + 1) configs

-- the job on this line would get in another one's way
abbrev pub overlap_refused : ℕ → Refusal
overlap_refused line = record { reason = Overlap; told = decimal line }

abbrev pub or_overlap : Option ℕ → Result (Unit {0}) Refusal
or_overlap (Some line) = Err (overlap_refused line)
or_overlap None = Ok tt

-- no job gets in another one's way or writes into the list, or the first one that does
abbrev pub AreApart : List ℕ → List (Result JobConfig Refusal) → Result (Unit {0}) Refusal → Type 0
AreApart list configs due = due ≡ or_overlap (first_overlap list (paths_from 1 configs))

-- ---- inputs

-- class files as they are read below a directory: their paths ascend, and together they have at most 64 MiB
pub record AreClassFiles (files : List FileAt) : Type 0 where
  pub ascending : IsAscending (map (λ (f : FileAt). f.path) files)
  pub short : total files ≤ 67108864

-- all that a job reads is read so
pub record IsRead (input : JobInput) : Type 0 where
  pub names : HasNames input.config
  pub files : AreClassFiles input.inputs

-- the job's class files, where it has a config
abbrev pub IsInput : Parts → Files → Result JobConfig Refusal → Result JobInput Refusal → Type 0
IsInput parts files (Ok config) =
    Then (parts.input files config.rules) (λ inputs due. due ≡ Ok (input_of config inputs))
IsInput parts files (Err refusal) = λ due. due ≡ Err refusal

-- the bytes that a job's class files have together
abbrev pub bytes_of : Result JobInput Refusal → ℕ
bytes_of (Ok input) = total input.inputs
bytes_of (Err refusal) = 0

abbrev pub bytes_in : List (Result JobInput Refusal) → ℕ
bytes_in inputs = sum_by bytes_of inputs

-- the inputs of all jobs, which have together at most 64 MiB; or the first ones have more
abbrev pub AreInputs : Parts → Files → List (Result JobConfig Refusal) → Result (List (Result JobInput Refusal)) Refusal
    → Type 0
AreInputs parts files configs (Ok inputs) =
    AllZip (IsInput parts files) configs inputs × (bytes_in inputs ≤ 67108864)
AreInputs parts files configs (Err refusal) = (refusal ≡ passed quantity.Batch)
    × ((rest : List (Result JobConfig Refusal)) × (inputs : List (Result JobInput Refusal))
    × EachBefore (IsInput parts files) configs rest (Ok inputs) × (67108864 < bytes_in inputs))

-- ---- plans

-- the job's plan, where it has an input
abbrev pub IsPlan : Parts → Result JobInput Refusal → Result Plan Refusal → Type 0
IsPlan parts (Ok input) = parts.plan input
IsPlan parts (Err refusal) = λ due. due ≡ Err refusal

-- ---- all jobs

-- the plans of all jobs, behind their inputs
abbrev pub FollowsApart : Parts → Files → List (Result JobConfig Refusal) → Result (List (Result Plan Refusal)) Refusal
    → Type 0
FollowsApart parts files configs = Then (AreInputs parts files configs) (Each (IsPlan parts))

-- behind the look at their paths
abbrev pub FollowsConfigs : Parts → List ℕ → Files → List (Result JobConfig Refusal)
    → Result (List (Result Plan Refusal)) Refusal → Type 0
FollowsConfigs parts list files configs = Then (AreApart list configs) (λ done. FollowsApart parts files configs)

-- behind their configs
abbrev pub FollowsList : Parts → List ℕ → Files → List JobFiles → Result (List (Result Plan Refusal)) Refusal → Type 0
FollowsList parts list files jobs = Then (Each (parts.config files) jobs) (FollowsConfigs parts list files)

-- what all jobs are to write and to say, each with its plan or its refusal; or why there is no batch
abbrev pub AreAnswers : Parts → List ℕ → Files → Result (List (Result Plan Refusal)) Refusal → Type 0
AreAnswers parts list files = Then (AreListed files list) (FollowsList parts list files)
