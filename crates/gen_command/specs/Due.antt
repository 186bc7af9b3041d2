-- What `gen NUMBER DIRECTORY` is to write and to say of told files, or why it is refused (the project's own: what the
-- command promises).
use Rattle.std.specs.Prelude.{◌≡◌, ℕ, List, [], ◌++◌, length, map, Result, Ok, Err, codes}
use Rattle.std.specs.FinMap.{keys}
use Rattle.std.specs.Fmt.{decimal}
use Rattle.tree_io.specs.Below.{paths_below}
use Rattle.tree_io.specs.Files.{Files}
use Rattle.tree_io.specs.declared.file_at.FileAt.{FileAt}
use Rattle.class_files.specs.Input.{path_in}
use Rattle.gen_classes.specs.Generated.{generated}
use Rattle.command_frame.specs.Steps.{Then}
use Rattle.command_frame.specs.declared.command.Plan.{Plan}
use Rattle.command_frame.specs.declared.refusal.Reason.TheVariants.{NotEmpty}
use Rattle.command_frame.specs.declared.refusal.Refusal.{Refusal}
use Rattle.gen_command.specs.declared.command.GenFiles.{GenFiles}

-- ---- the directory

-- no told file lies below the directory
abbrev pub IsEmpty : Files → List ℕ → Type 0
IsEmpty files directory = paths_below directory (keys files) ≡ []

-- a file lies below the directory to which classes are to be written
abbrev pub not_empty : List ℕ → Refusal
not_empty directory = record { reason = NotEmpty; told = directory }

abbrev pub IsEmptied : Files → List ℕ → Result (Unit {0}) Refusal → Type 0
IsEmptied files directory (Ok done) = IsEmpty files directory
IsEmptied files directory (Err refusal) = (refusal ≡ not_empty directory) × (IsEmpty files directory → ⊥)

-- ---- the plan

-- a file at its path below a directory
abbrev pub below : List ℕ → FileAt → FileAt
below directory file = record { path = path_in directory file.path; bytes = file.bytes }

-- what is said of so many classes
abbrev pub gen_text : ℕ → List ℕ
gen_text count = codes "classes " ++ (decimal count ++ codes "\n")

-- the files of the set are written below the directory, and their number is said
abbrev pub plan_for : GenFiles → Plan
plan_for named = record {
  files = map (below named.directory) (generated named.number);
  text = gen_text (length (generated named.number));
}

-- ---- the whole

-- what `gen NUMBER DIRECTORY` is to write and to say, or that a file is there
abbrev pub IsDue : GenFiles → Files → Result Plan Refusal → Type 0
IsDue named files = Then (IsEmptied files named.directory) (λ empty due. due ≡ Ok (plan_for named))
