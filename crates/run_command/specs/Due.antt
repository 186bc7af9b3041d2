-- What `run DIRECTORY ENTRY STEPS WORD..` is to say of told files, or why it is refused (the project's own: what the
-- command promises).
use Rattle.std.specs.Prelude.{◌≡◌, ℕ, List, Option, Some, None, Result, Ok, Err}
use Rattle.std.specs.Option.{option_and_then, option_map}
use Rattle.tree_io.specs.Files.{Files}
use Rattle.tree_io.specs.declared.file_at.FileAt.{FileAt}
use Rattle.class_model.specs.declared.class.Class.{Class}
use Rattle.class_run.specs.Ended.{ended_after}
use Rattle.command_frame.specs.Steps.{Then}
use Rattle.command_frame.specs.declared.command.Plan.{Plan}
use Rattle.command_frame.specs.declared.refusal.Reason.TheVariants as reason
use Rattle.command_frame.specs.declared.refusal.Refusal.{Refusal}
use Rattle.command_steps.specs.Sets.{IsDirectory, IsSet}
use Rattle.run_command.specs.Arguments.{args_in}
use Rattle.run_command.specs.Entries.{entry_in}
use Rattle.run_command.specs.Shown.{run_said}
use Rattle.run_command.specs.declared.command.RunFiles.{RunFiles}
use Rattle.run_command.specs.declared.entries.Entry.{Entry}
use Rattle.run_command.specs.declared.entries.Start.{Start}

-- ---- what a run begins with

-- a method with the arguments that words are for it
abbrev pub with_args : List (List ℕ) → Entry → Option Start
with_args words entry = option_map (λ args. record { entry = entry; args = args }) (args_in entry.ty.args words)

abbrev pub start_in : List Class → List ℕ → List (List ℕ) → Option Start
start_in classes text words = option_and_then (with_args words) (entry_in classes text)

-- no method can be run as this entry with the words behind it
abbrev pub no_entry : List ℕ → Refusal
no_entry entry = record { reason = reason.Entry; told = entry }

abbrev pub or_no_entry : List ℕ → Option Start → Result Start Refusal
or_no_entry entry (Some start) = Ok start
or_no_entry entry None = Err (no_entry entry)

-- what a run of an entry begins with in a set of classes, or why there is none
abbrev pub IsStart : List Class → List ℕ → List (List ℕ) → Result Start Refusal → Type 0
IsStart classes entry words due = due ≡ or_no_entry entry (start_in classes entry words)

-- ---- the whole

-- what is said of a run of so many steps
abbrev pub IsRun : List Class → ℕ → Start → Result Plan Refusal → Type 0
IsRun classes steps start due = due ≡ run_said (ended_after classes start.entry.key start.args steps)

-- a set of classes is run
abbrev pub FollowsSet : RunFiles → List Class → Result Plan Refusal → Type 0
FollowsSet named classes = Then (IsStart classes named.entry named.words) (IsRun classes named.steps)

-- class files of the directory
abbrev pub FollowsFiles : RunFiles → List FileAt → Result Plan Refusal → Type 0
FollowsFiles named inputs = Then (IsSet named.directory inputs) (FollowsSet named)

-- what the command is to say: what the run prints and how it ends, or the first refusal
abbrev pub IsDue : RunFiles → Files → Result Plan Refusal → Type 0
IsDue named files = Then (IsDirectory files named.directory) (FollowsFiles named)
