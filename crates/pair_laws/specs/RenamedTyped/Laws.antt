-- The methods of a set that is taken are typed under new names, as a statement on all sets and names (the project's
-- own).
use Rattle.std.specs.Prelude.{List}
use Rattle.class_model.specs.declared.class.Class.{Class}
use Rattle.class_rename.specs.Names.{Names}
use Rattle.pair_laws.specs.RenamedTaken.NewSet.{IsNewSet}
use Rattle.image_laws.specs.TakenSet.TakenSet.{IsTaken}
use Rattle.type_verifier.specs.Verified.{AreTyped}

-- each method is typed under new names, in whatever order its class stands, as it was (JVMS 4.10.1)
abbrev pub RenamedIsTyped : Type 0
RenamedIsTyped = (names : Names) (classes out : List Class) → IsTaken classes → AreTyped classes
    → IsNewSet names classes out → IsTaken out → AreTyped out
