-- One thing at most is due of told files.
use Rattle.std.proofs.Common.{List}
use Rattle.tree_io.specs.declared.file_at.FileAt.{FileAt}
use Rattle.class_model.specs.declared.class.Class.{Class}
use Rattle.class_run.specs.Ended.{ended_after}
use Rattle.command_frame.proofs.OneStep.{IsOne, one_value, then_one}
use Rattle.command_steps.proofs.OneStep.{one_directory, one_taken}
use Rattle.command_steps.specs.Sets.{IsDirectory, IsSet}
use Rattle.run_command.specs.Due.{FollowsFiles, FollowsSet, IsRun, IsStart, or_no_entry, start_in}
use Rattle.run_command.specs.OneDue.{IsOneDue}
use Rattle.run_command.specs.Shown.{run_said}
use Rattle.run_command.specs.declared.command.RunFiles.{RunFiles}

one_of_set : (named : RunFiles) (classes : List Class) → IsOne (FollowsSet named classes)
one_of_set named classes =
    then_one (IsStart classes named.entry named.words) (IsRun classes named.steps)
    (one_value (or_no_entry named.entry (start_in classes named.entry named.words)))
    (λ start. one_value (run_said (ended_after classes start.entry.key start.args named.steps)))

one_of_files : (named : RunFiles) (inputs : List FileAt) → IsOne (FollowsFiles named inputs)
one_of_files named inputs =
    then_one (IsSet named.directory inputs) (FollowsSet named) (one_taken named.directory inputs)
    (λ classes. one_of_set named classes)

pub one_due : IsOneDue
one_due files named =
    then_one (IsDirectory files named.directory) (FollowsFiles named) (one_directory files named.directory)
    (λ inputs. one_of_files named inputs)
