-- Answers of `two_runs`: what its calls ask for, and what it promises.
use Rattle.type_sound.proofs.RowsTaken.{failing_never_wrong, failing_taken}
use Rattle.type_sound.proofs.RowsTyped.{failing_typed}
use Rattle.type_sound.proofs.RowsUnset.{goes_wrong, not_typed}
use Rattle.type_sound.proofs.rows.two_runs.Goals as goal

pub returns : goal.returns
returns c = record {
  not_typed = not_typed;
  goes_wrong = goes_wrong;
  taken = failing_taken;
  typed = failing_typed;
  never_wrong = failing_never_wrong;
}
