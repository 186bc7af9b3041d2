-- Taking the value at the top of the stack (only the proof of the bodies needs it).
use Rattle.std.specs.Prelude.{◌≡◌, List, [], ◌∷◌, Option, Some, None}
use Rattle.class_model.specs.declared.frame.VType.{VType}

-- the value at the top is taken, where there is one
abbrev pub Pops : Option VType → List VType → List VType → Type 0
Pops (Some ty) old new = old ≡ ty ∷ new
Pops None old new = (old ≡ []) × (new ≡ [])
