-- Answers of `const_step`: what its calls ask for, and what it promises.
use Rattle.std.proofs.Common.{sym, subst}
use Rattle.class_model.specs.declared.code.Code.{Code}
use Rattle.code_edit.specs.Facts.{IsAllReached}
use Rattle.pass_driver.proofs.steps.const_step.Goals as goal

pub edits-requires-clause-reached : goal.edits-requires-clause-reached
edits-requires-clause-reached c = subst (λ (code : Code). IsAllReached code) (sym c.code_of-2.ensures) c.requires.reached
