-- The code of a method after acts of some pass, or as it was (the project's own).
use Rattle.std.specs.Prelude.{◌≡◌, ◌⊎◌, List, Option, Some}
use Rattle.std.specs.List.{AllByRecursion}
use Rattle.class_model.specs.declared.code.Code.{Code}
use Rattle.code_edit.specs.declared.act.Act.{Act}

abbrev pub IsActedOn : (List Act → Code → Code) → (List Act → Code → Act → Type 0)
    → Option Code → Option Code → Type 0
IsActedOn applied right a b = (b ≡ a)
    ⊎ ((old : Code) × (acts : List Act) × (a ≡ Some old) × AllByRecursion (right acts old) acts
    × (b ≡ Some (applied acts old)))
