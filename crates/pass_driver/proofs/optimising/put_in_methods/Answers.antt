-- Answers of `put_in_methods`: what its calls ask for, and what it promises.
use Rattle.std.proofs.Common.{◌≤◌, sym, length, arith}
use Rattle.type_verifier.specs.WithCode.{method_with_code}
use Rattle.pass_driver.proofs.Spotting.{changed_out}
use Rattle.pass_driver.proofs.optimising.put_in_methods.Goals as goal

pub returns-else-at-methods : goal.returns-else-at-methods
returns-else-at-methods c =
    let out : length c.args.methods.now ≤ c.args.number = omega (arith, c.if-at-methods.false) in
    sym (changed_out (method_with_code c.args.code) c.args.number c.args.methods.now out)
