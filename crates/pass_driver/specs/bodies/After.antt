-- The steps so far, and the code that they left (the project's own; only the code's contracts need it).
use Rattle.std.specs.Prelude.{◌≡◌, ◌||◌, ◌++◌, List, [], ◌∷◌, is_some}
use Rattle.std.specs.Option.{unwrap_or}
use Rattle.class_model.specs.WellFormed.{IsGoodCode}
use Rattle.class_model.specs.declared.code.Code.{Code}
use Rattle.code_edit.specs.declared.act.Pass.{Pass}
use Rattle.code_edit.specs.declared.act.PassEdits.{PassEdits}
use Rattle.code_edit.specs.Passes.{IsFound}
use Rattle.code_edit.specs.SoundCode.{IsSound}
use Rattle.pass_driver.specs.Stepped.{AreSteps, has_act, is_some_act, step_after, stepped}
use Rattle.pass_driver.specs.declared.steps.After.{After}

-- the code that the steps so far left: the own one where there was no act
abbrev pub code_of : Code → After → Code
code_of own after = unwrap_or after.code own

-- it is sound and follows the format
pub record IsRight (code : Code) : Type 0 where
  pub good : IsGoodCode code
  pub sound : IsSound code

-- one step more was made
pub record IsNext (own : Code) (pass : Pass) (old new : After) : Type 0 where
  pub step : PassEdits
  pub is_pass : step.pass ≡ pass
  pub found : IsFound pass (code_of own old) step.acts
  pub steps : new.steps ≡ old.steps ++ step ∷ []
  pub code : code_of own new ≡ step_after step (code_of own old)
  pub some : is_some new.code ≡ (is_some old.code || is_some_act step.acts)
  pub right : IsRight (code_of own new)

-- all six steps were made
pub record IsAfter (own : Code) (after : After) : Type 0 where
  pub steps : AreSteps after.steps own
  pub code : code_of own after ≡ stepped after.steps own
  pub some : is_some after.code ≡ has_act after.steps
