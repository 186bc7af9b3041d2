-- Answers of `judge_pair`: what its calls ask for, and what it promises.
use Rattle.std.proofs.Common.{Err, ap}
use Rattle.rule_system.proofs.SystemDue.{due_is}
use Rattle.command_frame.specs.Refusal.{absent_by}
use Rattle.command_steps.proofs.Systems.{system_told}
use Rattle.check_command.specs.Due.{differs}
use Rattle.check_command.proofs.judging.judge_pair.Goals as goal

pub check_required-requires-clause-required : goal.check_required-requires-clause-required
check_required-requires-clause-required c =
    due_is c.args.set.now c.args.rules.now c.args.sys.now
    (system_told c.args.rules.now c.args.set.now c.args.sys.now c.requires.system).due

pub returns-in_ok-no_pair-in-Err-Fault-clause-judged : goal.returns-in_ok-no_pair-in-Err-Fault-clause-judged
returns-in_ok-no_pair-in-Err-Fault-clause-judged c =
    let is = c.in_ok-no_pair-in-Err-Fault.ensures in (
      ap absent_by is,
      differs c.in-Err-Fault.no (rw c.in-Err-Fault.field-0-is at c.in-Err-Fault.ensures) (ap Err is),
    )
