-- Answers of `push_set`: what its calls ask for, and what it promises.
use Rattle.std.proofs.Common.{◌++◌, map}
use Rattle.class_model.specs.declared.class.Class.{Class}
use Rattle.set_meanings.proofs.AllNames.{names_on}
use Rattle.set_meanings.proofs.names.push_set.Goals as goal

pub loop-number-preserved : goal.loop-number-preserved
loop-number-preserved c =
    names_on c.args.set.now c.loop-number.number c.class.result.now c.loop-number.names c.push.new.self
    c.in_ok-clone.field-0 (c.args.names.now ++ map (λ (d : Class). d.name) c.args.set.now) c.class.ensures.is
    c.in_ok-clone.ensures.cases c.in_ok-push.ensures c.loop-number.invariant
