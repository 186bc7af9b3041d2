-- Answers of `step_asking`: what its calls ask for, and what it promises.
use Rattle.std.proofs.Common.{◌≡◌, arith, length}
use Rattle.run_machine.proofs.Keeping.{asked_again}
use Rattle.run_machine.proofs.going.step_asking.Goals as goal

pub returns-then-len-waiting-clause-method : goal.returns-then-len-waiting-clause-method
returns-then-len-waiting-clause-method g c =
    let same : length c.ask.new.rest.waits ≡ length c.args.rest.now.waits =
    omega (arith, c.if-len-waiting.true, c.len.ensures, c.len-waiting.ensures) in
    asked_again (g.S.Shapes.shape c.args.shapes.now) c.args.rest.now c.ask.new.rest c.args.frame c.in-Runs.next
    c.args.request
    (rw c.in-Runs.is at c.in_ok-other.ensures) same
