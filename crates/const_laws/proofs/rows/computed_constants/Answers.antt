-- Answers of `computed_constants`: what its calls ask for, and what it promises.
use Rattle.std.proofs.Common.{arith, refl}
use Rattle.const_laws.proofs.rows.computed_constants.Goals as goal

pub returns-clause-forged : goal.returns-clause-forged
returns-clause-forged c = λ h.
    let y = (h.1 2 (omega arith) (omega arith)).supported 6 (omega arith) (0, omega arith, refl) in
    cc
