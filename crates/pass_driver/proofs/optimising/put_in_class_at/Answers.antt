-- Answers of `put_in_class_at`: what its calls ask for, and what it promises.
use Rattle.std.proofs.Common.{sym}
use Rattle.type_verifier.specs.WithCode.{class_with_code}
use Rattle.pass_driver.proofs.Spotting.{changed_set}
use Rattle.pass_driver.proofs.optimising.put_in_class_at.Goals as goal

pub returns : goal.returns
returns c =
    sym (changed_set (class_with_code c.args.number c.args.code) c.args.at c.args.classes.now c.index-classes-at.result
    c.put_in_class.new.class c.requires c.put_in_class.ensures)
