-- Answers of `put_in_method_at`: what its calls ask for, and what it promises.
use Rattle.std.proofs.Common.{sym}
use Rattle.type_verifier.specs.WithCode.{method_with_code}
use Rattle.pass_driver.proofs.Spotting.{changed_set}
use Rattle.pass_driver.proofs.optimising.put_in_method_at.Goals as goal

pub returns : goal.returns
returns c =
    sym (changed_set (method_with_code c.args.code) c.args.at c.args.methods.now c.index-methods-at.result
    c.put_in_method.new.method c.requires c.put_in_method.ensures)
