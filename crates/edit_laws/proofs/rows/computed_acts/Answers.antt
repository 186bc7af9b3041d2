-- Answers of `computed_acts`: what its calls ask for, and what it promises.
use Rattle.std.proofs.Common.{arith, refl}
use Rattle.code_edit.specs.Reach.{led_to}
use Rattle.class_model.specs.declared.op.Op.TheVariants as op
use Rattle.edit_laws.proofs.rows.computed_acts.Goals as goal

pub returns-clause-needed : goal.returns-clause-needed
returns-clause-needed c = λ h.
    h.2 2 (omega arith) (omega arith)
    (led_to 0 0 (record { op = op.Goto 2; line = _ }) refl refl refl)

pub returns-clause-itself : goal.returns-clause-itself
returns-clause-itself c = λ h. cc
