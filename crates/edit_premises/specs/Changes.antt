-- Codes that come about by changes one after another (the project's own).
use Rattle.std.specs.Prelude.{◌≡◌, ℕ, zero, suc, Option}
use Rattle.class_model.specs.declared.code.Code.{Code}
use Rattle.edit_premises.specs.Compacts.{AtPlace, Compacts}
use Rattle.edit_premises.specs.Cutting.{AtOne, Cuts}
use Rattle.edit_premises.specs.Folding.{AtFolded, Folds}
use Rattle.edit_premises.specs.Retargets.{Before, Retargets}
use Rattle.jvm_model.specs.Premise.{Stands}
use Rattle.jvm_model.specs.State.{Body}

-- so many changes, each of which may change nothing
abbrev pub Becomes : (Code → Code → Type 0) → ℕ → Option Code → Option Code → Type 0
Becomes puts zero a b = b ≡ a
Becomes puts (suc n) a b = (x : Option Code) × Stands puts a x × Becomes puts n x b

-- one change of the passes: all indices stay as they were, or places move
pub data Changed (old new : Code) : Type 0 where
  goes_on : Retargets old new → Changed old new
  cuts : Cuts old new → Changed old new
  decides : Folds old new → Changed old new
  leaves_out : Compacts old new → Changed old new

-- how bodies in the two codes go together
abbrev pub Together : (old new : Code) → Changed old new → ℕ → Body → Body → Type 0
Together old new (goes_on h) = Before old
Together old new (cuts h) = AtOne h.loaded h.lost h.takes
Together old new (decides h) = AtFolded old h.facts h.extra
Together old new (leaves_out h) = AtPlace old h.lives h.reached
