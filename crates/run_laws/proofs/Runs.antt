-- What `run` is to say of told files tells of a run that goes wrong at no number of steps.
use Rattle.command_frame.proofs.OneStep.{both_gave}
use Rattle.command_steps.specs.Sets.{IsDirectory, IsSet}
use Rattle.pair_laws.proofs.FilesFound.Readable.{readable}
use Rattle.removal_laws.proofs.AcceptedSets.Taken.{are_taken}
use Rattle.run_command.specs.Due.{FollowsFiles, FollowsSet, IsRun, IsStart}
use Rattle.run_laws.specs.Runs.{RunsNeverGoWrong}
use Rattle.run_laws.proofs.Entered.{begins, never_wrong}

pub runs_right : RunsNeverGoWrong
runs_right files named plan due =
    let found = both_gave (IsDirectory files named.directory) (FollowsFiles named) plan due in
    let set = both_gave (IsSet named.directory found.0) (FollowsSet named) plan found.2 in
    let run = both_gave (IsStart set.0 named.entry named.words) (IsRun set.0 named.steps) plan set.2 in
    let taken = are_taken found.0 set.0 (readable files named.directory found.0 found.1) set.1 in
    record {
      inputs = found.0;
      classes = set.0;
      start = run.0;
      found = found.1;
      accepted = set.1;
      begins = run.1;
      said = run.2;
      right = never_wrong set.0 taken set.1.typed named.words run.0 (begins set.0 named.entry named.words run.0 run.1);
    }
