-- References to objects of the heap (JVMS 2.4).
use Rattle.std.specs.Prelude.{ℕ, List, Option, Some, None}
use Rattle.jvm_model.specs.Value.{Lit, Ref, Value}

-- the number of the object that a value refers to, if it does (the project's own)
abbrev pub number_of : Value → Option ℕ
number_of (Ref n) = Some n
number_of _ = None

-- the units of the literal that a value refers to, if it does (the project's own)
abbrev pub text_of : Value → Option (List ℕ)
text_of (Lit units) = Some units
text_of _ = None
