-- What a batch writes and says (the project's own: what the command promises).
use Rattle.std.specs.Prelude.{◌≡◌, ◌+◌, ℕ, List, [], ◌∷◌, ◌++◌, Result, Ok, Err, codes, ◌==◌}
use Rattle.std.specs.Prelude.{if◌then◌else◌}
use Rattle.std.specs.Fmt.{decimal}
use Rattle.tree_io.specs.Files.{Files}
use Rattle.tree_io.specs.declared.file_at.FileAt.{FileAt}
use Rattle.command_frame.specs.Refusal.{reason_status, refusal_line}
use Rattle.command_frame.specs.Steps.{Then}
use Rattle.command_frame.specs.declared.command.Plan.{Plan}
use Rattle.command_frame.specs.declared.refusal.Refusal.{Refusal}
use Rattle.batch_command.specs.Jobs.{AreAnswers, Parts}
use Rattle.batch_command.specs.declared.joined.Batch.{Batch}

-- the files of a job that has a plan
abbrev pub files_of : Result Plan Refusal → List FileAt
files_of (Ok plan) = plan.files
files_of (Err refusal) = []

-- those of all jobs, in the order of the list
abbrev pub files_in : List (Result Plan Refusal) → List FileAt
files_in [] = []
files_in (answer ∷ answers) = files_of answer ++ files_in answers

-- what a job says: the text of its plan, or the line of its refusal
abbrev pub text_of : Result Plan Refusal → List ℕ
text_of (Ok plan) = plan.text
text_of (Err refusal) = refusal_line refusal

-- the line before the report of the job of this number
abbrev pub job_line : ℕ → List ℕ
job_line number = codes "job " ++ (decimal number ++ codes "\n")

-- that report
abbrev pub report : ℕ → Result Plan Refusal → List ℕ
report number answer = job_line number ++ text_of answer

-- the reports of jobs of which the first has this number
abbrev pub reports : ℕ → List (Result Plan Refusal) → List ℕ
reports number [] = []
reports number (answer ∷ answers) = report number answer ++ reports (number + 1) answers

-- the status of a job
abbrev pub status_of : Result Plan Refusal → ℕ
status_of (Ok plan) = 0
status_of (Err refusal) = reason_status refusal.reason

-- this status, or the other one where it is 0
abbrev pub or_else : ℕ → ℕ → ℕ
or_else status other = if status == 0 then other else status

-- the status of the first job whose status isn't 0, or 0
abbrev pub first_status : List (Result Plan Refusal) → ℕ
first_status [] = 0
first_status (answer ∷ answers) = or_else (status_of answer) (first_status answers)

abbrev pub batch_of : List (Result Plan Refusal) → Batch
batch_of answers = record {
  plan = record { files = files_in answers; text = reports 1 answers };
  status = first_status answers;
}

-- it is the batch of some such answers
abbrev pub IsJoined : Batch → Type 0
IsJoined batch = (answers : List (Result Plan Refusal)) × (batch ≡ batch_of answers)

-- the batch of what all jobs are to write and to say, or why there is none
abbrev pub IsDue : Parts → List ℕ → Files → Result Batch Refusal → Type 0
IsDue parts list files = Then (AreAnswers parts list files) (λ answers due. due ≡ Ok (batch_of answers))
