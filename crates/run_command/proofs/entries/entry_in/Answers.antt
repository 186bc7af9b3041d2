-- Answers of `entry_in`: what its calls ask for, and what it promises.
use Rattle.std.proofs.Common.{◌<◌, length, sym, ◌∙◌, arith}
use Rattle.run_command.proofs.FirstGiven.{given_here, given_later}
use Rattle.run_command.specs.Entries.{class_entry}
use Rattle.run_command.proofs.entries.entry_in.Goals as goal

pub returns-then-is_some : goal.returns-then-is_some
returns-then-is_some c =
    let within : c.loop-number.number < length c.args.set.now = omega
    (arith, c.loop-number-test.true, c.len-number-end.ensures) in
    given_here (class_entry c.args.set.now c.args.text.now) c.args.set.now c.loop-number.number c.class.result.now
    within c.class.ensures.is c.in_ok-entry.entry c.in_ok-entry.ensures (sym c.is_some.ensures ∙ c.if-is_some.true)
    ∙ c.loop-number.invariant

pub loop-number-preserved : goal.loop-number-preserved
loop-number-preserved c =
    let within : c.loop-number.number < length c.args.set.now = omega
    (arith, c.loop-number-test.true, c.len-number-end.ensures) in
    given_later (class_entry c.args.set.now c.args.text.now) c.args.set.now c.loop-number.number c.class.result.now
    within c.class.ensures.is c.in_ok-entry.entry c.in_ok-entry.ensures (sym c.is_some.ensures ∙ c.if-is_some.false)
    ∙ c.loop-number.invariant
