-- Control doesn't leave a typed code behind its last instruction, as a statement on all sets (the project's own).
use Rattle.std.specs.Prelude.{◌≡◌, ℕ, List, Some, slice_get}
use Rattle.class_model.specs.WellFormed.{IsWellFormed}
use Rattle.class_model.specs.declared.class.Class.{Class}
use Rattle.class_model.specs.declared.class.Method.{Method}
use Rattle.class_model.specs.declared.code.Code.{Code}
use Rattle.code_edit.specs.SoundCode.{IsSound}
use Rattle.type_verifier.specs.Verified.{AreTyped}

-- a typed code of a class that follows the format is sound: control leaves it by a return or a throw alone
-- (JVMS 4.9.1, 4.9.2)
abbrev pub TypedCodesAreSound : Type 0
TypedCodesAreSound = (classes : List Class) (n : ℕ) (c : Class) (k : ℕ) (m : Method) (code : Code) → IsWellFormed c
    → slice_get classes n ≡ Some c → slice_get c.methods k ≡ Some m → m.code ≡ Some code → AreTyped classes
    → IsSound code
