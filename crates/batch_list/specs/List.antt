-- The text of the list (the project's own: a line for each job, and few jobs).
use Rattle.std.specs.Prelude.{ℕ, ◌+◌, List, [], ◌∷◌, length, nat_lt, Option, Some, None, Result, Ok, Err, is_some}
use Rattle.std.specs.Prelude.{if◌then◌else◌}
use Rattle.std.specs.Str.Lines.{lines}
use Rattle.batch_list.specs.Line.{job_in, jobs_in}
use Rattle.batch_list.specs.declared.line.JobFiles.{JobFiles}
use Rattle.batch_list.specs.declared.list.ListFault.{ListFault}
use Rattle.batch_list.specs.declared.list.ListFault.TheVariants.{BadLine, TooMany}

-- the number of the first line that doesn't name the files of a job, where the first of all has this number
abbrev pub first_bad : ℕ → List (List ℕ) → Option ℕ
first_bad n [] = None
first_bad n (line ∷ lines) = if is_some (job_in line) then first_bad (n + 1) lines else Some n

-- the jobs of lines of which none is bad, up to 64
abbrev pub up_to_limit : List (List ℕ) → Option ℕ → Result (List JobFiles) ListFault
up_to_limit lines (Some bad) = Err (BadLine bad)
up_to_limit lines None = if nat_lt 64 (length lines) then Err TooMany else Ok (jobs_in lines)

-- the jobs that the text lists, or what is wrong with it: the first bad line, else that there are too many
abbrev pub list_read : List ℕ → Result (List JobFiles) ListFault
list_read text = up_to_limit (lines text) (first_bad 1 (lines text))
