use Rattle.std.proofs.Common.{◌≡◌, ◌++◌, drop}
use Rattle.code_edit.specs.ConstEdits.{Shut, runs}
use Rattle.pass_const.specs.Running.{run_of}
use Rattle.pass_const.proofs.runs.push_runs.Given as goal

abbrev pub invariant-loop-now : goal.invariant-loop-now
invariant-loop-now l = (l.at ≡ l.now-index)
    × (l.acts.items ++ runs l.slot l.at (run_of l.run) (drop l.now-index l.known)
    ≡ l.fn.acts.items ++ runs l.slot 0 Shut l.known)
