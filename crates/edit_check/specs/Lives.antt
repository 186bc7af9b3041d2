-- Which instructions stay, as a list (the project's own; only the code's contracts need it).
use Rattle.std.specs.Prelude.{◌≡◌, ◌<◌, ℕ, Bool, List, length}
use Rattle.class_model.specs.declared.code.Code.{Code}
use Rattle.code_edit.specs.declared.act.Act.{Act}
use Rattle.code_edit.specs.declared.act.Pass.{Pass}
use Rattle.code_edit.specs.Applied.{lives_of}
use Rattle.edit_tables.specs.Places.{lives_in}

-- the list tells of each index of a code whether the acts of a step leave it
pub record TellsLives (pass : Pass) (acts : List Act) (code : Code) (lives : List Bool) : Type 0 where
  pub long : length lives ≡ length code.ins
  pub each : (at : ℕ) → at < length code.ins → lives_in lives at ≡ lives_of pass acts code at
