-- No run that the command `run` tells of goes wrong, as a statement on all told files and words (the project's own: what
-- is promised of a run).
use Rattle.std.specs.Prelude.{◌≢◌, ℕ, List, Ok}
use Rattle.tree_io.specs.Files.{Files}
use Rattle.tree_io.specs.declared.file_at.FileAt.{FileAt}
use Rattle.class_model.specs.declared.class.Class.{Class}
use Rattle.class_run.specs.Ended.{ended_after}
use Rattle.class_run.specs.declared.ended.End.TheVariants as end
use Rattle.command_frame.specs.declared.command.Plan.{Plan}
use Rattle.command_steps.specs.Sets.{IsDirectory, IsSet}
use Rattle.run_command.specs.Due.{IsDue, IsRun, IsStart}
use Rattle.run_command.specs.declared.command.RunFiles.{RunFiles}
use Rattle.run_command.specs.declared.entries.Start.{Start}

-- a run that begins so goes wrong at no number of steps: no operand is missing or of another kind (JVMS 4.10)
abbrev pub NeverGoesWrong : List Class → Start → Type 0
NeverGoesWrong classes start = (n : ℕ) → (ended_after classes start.entry.key start.args n).how ≢ end.Wrong

-- what is said is what a run has come to, of the class files of the directory, which are accepted as a set, from the
-- method that the entry names with the arguments that the words are for it; and that run goes wrong at no number of steps
pub record TellsOfARun (named : RunFiles) (files : Files) (plan : Plan) : Type 0 where
  pub inputs : List FileAt
  pub classes : List Class
  pub start : Start
  pub found : IsDirectory files named.directory (Ok inputs)
  pub accepted : IsSet named.directory inputs (Ok classes)
  pub begins : IsStart classes named.entry named.words (Ok start)
  pub said : IsRun classes named.steps start (Ok plan)
  pub right : NeverGoesWrong classes start

-- so it is of whatever `run` is to say of told files, where it isn't refused
abbrev pub RunsNeverGoWrong : Type 0
RunsNeverGoWrong = (files : Files) (named : RunFiles) (plan : Plan) → IsDue named files (Ok plan)
    → TellsOfARun named files plan
