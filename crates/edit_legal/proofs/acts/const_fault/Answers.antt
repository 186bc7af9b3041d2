-- Answers of `const_fault`: what its calls ask for, and what it promises.
use Rattle.std.proofs.Common.{◌<◌, length, sym, subst}
use Rattle.class_model.specs.declared.code.Code.{Code}
use Rattle.edit_legal.proofs.ConstFaults.{const_fault_is, none_noted}
use Rattle.edit_legal.proofs.acts.const_fault.Goals as goal

pub first_fault-requires-clause-noted : goal.first_fault-requires-clause-noted
first_fault-requires-clause-noted c =
    none_noted c.args.acts.now c.args.code.now c.in_ok-constants.constants
    c.in_ok-constants.ensures

pub first_fault-requires-clause-holds : goal.first_fault-requires-clause-holds
first_fault-requires-clause-holds c =
    subst (λ (x : Code). length x.ins < 4294967295)
    (sym c.in_ok-constants.ensures.tells.same_code) c.requires.few

pub returns : goal.returns
returns c =
    const_fault_is c.args.acts.now c.args.code.now c.in_ok-constants.constants c.in_ok-fault.fault
    c.requires.sound c.in_ok-constants.ensures c.in_ok-fault.ensures
