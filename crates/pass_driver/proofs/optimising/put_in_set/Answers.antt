-- Answers of `put_in_set`: what its calls ask for, and what it promises.
use Rattle.std.proofs.Common.{◌≤◌, sym, length, arith}
use Rattle.type_verifier.specs.WithCode.{class_with_code}
use Rattle.pass_driver.proofs.Spotting.{changed_out}
use Rattle.pass_driver.proofs.optimising.put_in_set.Goals as goal

pub returns-else-at-classes : goal.returns-else-at-classes
returns-else-at-classes c =
    let new = c.args.new in
    let out : length c.args.classes.now ≤ new.class = omega (arith, c.if-at-classes.false) in
    sym (changed_out (class_with_code new.method new.code) new.class c.args.classes.now out)
