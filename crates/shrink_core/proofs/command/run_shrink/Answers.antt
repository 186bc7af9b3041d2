-- Answers of `run_shrink`: what its calls ask for, and what it promises.
use Rattle.command_frame.proofs.Endings.{ended_more}
use Rattle.shrink_command.specs.Due as shrink
use Rattle.shrink_core.proofs.Checked.{pair_due}
use Rattle.shrink_core.specs.Commands.{IsAny, PairIsDue}
use Rattle.shrink_core.proofs.command.run_shrink.Goals as goal

pub returns-clause-ended : goal.returns-clause-ended
returns-clause-ended g c =
    ended_more IsAny (shrink.IsDue c.args.files) (PairIsDue c.args.files) (pair_due c.args.files) c.run_command.result _ _
    c.run_command.ensures.ended
