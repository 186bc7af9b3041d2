-- The generated classes can be written (JVMS 4.11; that they can is the project's own law).
use Rattle.std.specs.Prelude.{◌≡◌, ℕ, ◌<◌, ◌≤◌, Ok}
use Rattle.class_model.specs.declared.class.Class.{Class}
use Rattle.class_model.specs.CanonicalClass.{pool_of}
use Rattle.class_model.specs.WellFormed.{CountsFit, IsWellFormed}
use Rattle.class_model.specs.WriteLimits.{limits}
use Rattle.gen_classes.specs.Generated.{caller_class, interface_class, plain_class}

-- a class that follows the rules of the format and passes no limit of it (JVMS 4.1 to 4.11)
pub record CanBeWritten (c : Class) : Type 0 where
  pub well_formed : IsWellFormed c
  pub counts : CountsFit c
  pub within : limits (pool_of c) c ≡ Ok tt

-- of a set of so many numbers as its calls allow each class can be
abbrev pub GeneratedCanBeWritten : Type 0
GeneratedCanBeWritten = CanBeWritten interface_class × ((n i : ℕ) → n ≤ 4000 → i < n
    → CanBeWritten (caller_class n i) × CanBeWritten (plain_class i))
