-- The code of a method after steps of passes, or as it was (the project's own).
use Rattle.std.specs.Prelude.{◌≡◌, ◌⊎◌, List, map, Option, Some}
use Rattle.class_model.specs.declared.code.Code.{Code}
use Rattle.code_edit.specs.declared.act.Act.{Act}
use Rattle.code_edit.specs.declared.act.Pass.{Pass}
use Rattle.code_edit.specs.declared.act.PassEdits.{PassEdits}
use Rattle.code_edit.specs.Acts.{step_passes}
use Rattle.code_edit.specs.Applied.{applied, edited}
use Rattle.code_edit.specs.Legal.{AreRightActs, AreRightSteps}

-- the code that there was, or the one after right acts of a pass
abbrev pub IsAfter : Pass → Option Code → Option Code → Type 0
IsAfter p a b = (b ≡ a)
    ⊎ ((old : Code) × (acts : List Act) × (a ≡ Some old) × AreRightActs p acts old
    × (b ≡ Some (applied p acts old)))

-- the code that there was, or the one after six steps of right acts
abbrev pub IsEdited : Option Code → Option Code → Type 0
IsEdited a b = (b ≡ a)
    ⊎ ((old : Code) × (steps : List PassEdits) × (a ≡ Some old)
    × (map (λ (s : PassEdits). s.pass) steps ≡ step_passes) × AreRightSteps steps old
    × (b ≡ Some (edited steps old)))
