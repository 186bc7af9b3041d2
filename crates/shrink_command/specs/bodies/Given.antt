-- What is known of a set that was read (the project's own; only the code's contracts need it).
use Rattle.std.specs.Prelude.{List}
use Rattle.std.specs.List.{AllByRecursion}
use Rattle.class_laws.specs.SpellingLaws.{IsWritable}
use Rattle.class_model.specs.declared.class.Class.{Class}
use Rattle.image_laws.specs.TakenSet.TakenSet.{IsTaken}
use Rattle.type_verifier.specs.Verified.{AreTyped}

-- it was built, follows the format and breaks no rule for links, each of its methods is typed, and each class can be
-- written
pub record IsGiven (classes : List Class) : Type 0 where
  pub taken : IsTaken classes
  pub typed : AreTyped classes
  pub writable : AllByRecursion IsWritable classes
