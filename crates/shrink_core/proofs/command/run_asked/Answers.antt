-- Answers of `run_asked`: what its calls ask for, and what it promises.
use Rattle.shrink_core.proofs.Checked.{checked}
use Rattle.shrink_core.proofs.command.run_asked.Goals as goal

pub returns-in-Check-clause-ended : goal.returns-in-Check-clause-ended
returns-in-Check-clause-ended g c =
    rw c.in-Check.is (checked (record { config = c.in-Check.config; witness = c.in-Check.witness })
    c.run_command.result _ _ c.run_command.ensures.ended)
