-- Answers of `judged`: what its calls ask for, and what it promises.
use Rattle.std.proofs.Common.{sym, subst}
use Rattle.class_model.specs.declared.code.Code.{Code}
use Rattle.pass_driver.specs.Outcomes.{IsTypedWith}
use Rattle.pass_driver.proofs.Faults.{refused}
use Rattle.pass_driver.proofs.judging.judged.Goals as goal

pub returns-in-Err-Fault : goal.returns-in-Err-Fault
returns-in-Err-Fault c = (
  c.args.steps,
  c.requires.steps,
  c.requires.acts,
  λ typed. refused c.codes_are_typed_or_at_fault.ensures.either c.args.checker.now c.args.class c.args.method
      c.args.code c.in-Err-Fault.field-0 c.in-Err-Fault.field-0-0 c.in-Err-Fault.field-0-is
      c.in-Err-Fault.ensures.judged
      (subst (λ (code : Code). IsTypedWith c.args.checker.now c.args.class c.args.method code)
      (sym c.requires.code) typed),
)
