-- A line of the list (the project's own: two paths with one blank between).
use Rattle.std.specs.Prelude.{◌≡◌, ◌↔◌, ℕ, Bool, not, ◌&&◌, List, [], ◌∷◌, ◌++◌, Option, Some, None, is_some, IsTrue}
use Rattle.std.specs.Prelude.{if◌then◌else◌}
use Rattle.std.specs.Option.{option_map, option_to_list}
use Rattle.std.specs.Str.{IsUtf8, is_utf8}
use Rattle.path_text.specs.Path.{is_path}
use Rattle.text_lines.specs.Cut.{◌>>=◌, Lacks, cut, where_true}
use Rattle.batch_list.specs.declared.line.JobFiles.{JobFiles}

-- ---- what a line is

-- the line names the files of a job
pub record NamesJob (line : List ℕ) (job : JobFiles) : Type 0 where
  pub encoded : IsUtf8 line
  pub parts : line ≡ job.config ++ 32 ∷ job.witness
  pub config : IsTrue (is_path job.config)
  pub witness : IsTrue (is_path job.witness)
  pub one_blank : Lacks 32 job.config × Lacks 32 job.witness

-- ---- how it is read

abbrev pub has_blank : List ℕ → Bool
has_blank text = is_some (cut 32 text)

-- two parts that are paths, without a blank in the second one
abbrev pub both_paths : List ℕ → List ℕ → Option (List ℕ × List ℕ)
both_paths config witness =
    where_true (is_path config && is_path witness && not (has_blank witness)) (config, witness)

-- the paths before and behind the first blank, where no other one follows
unfoldable pub paths_in : List ℕ → Option (List ℕ × List ℕ)
paths_in text = cut 32 text >>= (λ parts. both_paths parts.0 parts.1)

-- the two paths of a line
unfoldable pub paths_of : List ℕ → Option (List ℕ × List ℕ)
paths_of line = if is_utf8 line then paths_in line else None

abbrev pub job_of : List ℕ × List ℕ → JobFiles
job_of paths = record { config = paths.0; witness = paths.1 }

-- the job whose files the line names, if it names some
abbrev pub job_in : List ℕ → Option JobFiles
job_in line = option_map job_of (paths_of line)

-- the jobs of those lines that name one
abbrev pub jobs_in : List (List ℕ) → List JobFiles
jobs_in [] = []
jobs_in (line ∷ lines) = option_to_list (job_in line) ++ jobs_in lines

-- ---- the law

-- what is read of a line is what it names
abbrev pub Jobs : Type 0
Jobs = (line : List ℕ) (job : JobFiles) → (job_in line ≡ Some job) ↔ NamesJob line job
