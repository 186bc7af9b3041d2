-- Arguments in the slots of local variables (only the proof of the bodies needs it).
use Rattle.std.specs.Prelude.{List, [], ◌∷◌, Option, Some, None, if◌then◌else◌}
use Rattle.jvm_model.specs.Value.{Value, is_wide}

-- what the slots hold one after the other, a long being given two
abbrev pub cells : List Value → List (Option Value)
cells [] = []
cells (v ∷ vs) = Some v ∷ (if is_wide v then None ∷ cells vs else cells vs)
