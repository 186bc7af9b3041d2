-- What holds of classes under new names.
use Rattle.std.specs.Prelude.{ℕ, Bool, List}
use Rattle.class_model.specs.WellFormed.{CountsFit, IsWellFormed}
use Rattle.class_model.specs.declared.class.Class.{Class}
use Rattle.class_laws.specs.SpellingLaws.{IsWritable}
use Rattle.class_rename.specs.Names.{Names}
use Rattle.class_rename.specs.Renamed.{renamed}
use Rattle.pair_laws.specs.RenamedForm.Form.{KeepsApart, KeepsForm, TellsApart}

-- a class under new names that keep the form is well formed, and its counts fit (JVMS 4.1 to 4.9)
abbrev pub RenamedIsWellFormed : Type 0
RenamedIsWellFormed = (names : Names) (c : Class) → KeepsForm names → KeepsApart names c → IsWellFormed c → CountsFit c
    → IsWellFormed (renamed names c) × CountsFit (renamed names c)

-- a class that can be written can be written under them (the project's own: its numbers and texts are bounded)
abbrev pub RenamedIsWritable : Type 0
RenamedIsWritable = (names : Names) (c : Class) → KeepsForm names → KeepsApart names c → IsWritable c
    → IsWritable (renamed names c)

-- names that tell classes and members apart keep the members of a class apart (JVMS 4.5, 4.6)
abbrev pub ToldIsApart : Type 0
ToldIsApart = (names : Names) (known : List ℕ → Bool) (c : Class) → KeepsForm names → IsWellFormed c
    → TellsApart names known c → KeepsApart names c
