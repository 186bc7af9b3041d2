-- What holds of a set with the codes that become of its kept methods, as statements on all sets (the project's own).
use Rattle.std.specs.Prelude.{Bool, List}
use Rattle.class_model.specs.declared.class.Class.{Class}
use Rattle.image_laws.specs.TakenSet.TakenSet.{IsTaken}
use Rattle.pass_driver.specs.Optimised.{IsOptimised, IsOptimisedIf, with_codes}
use Rattle.pass_driver.specs.declared.optimising.Optimised.{Optimised}
use Rattle.swap_laws.specs.Swapped.{IsSwapped}
use Rattle.type_verifier.specs.Verified.{AreTyped}

-- it differs from the set in codes alone, which follow the format and name nothing more
abbrev pub OptimisedSetsAreSwapped : Type 0
OptimisedSetsAreSwapped = (marks : List Bool) (classes : List Class) (o : Optimised) → IsTaken classes
    → AreTyped classes → IsOptimised marks classes o → IsSwapped classes (with_codes o.codes classes)

-- and each of its methods is typed (JVMS 4.10.1)
abbrev pub OptimisedSetsAreTyped : Type 0
OptimisedSetsAreTyped = (marks : List Bool) (classes : List Class) (o : Optimised) → AreTyped classes
    → IsOptimised marks classes o → AreTyped (with_codes o.codes classes)

-- ---- by the rules

-- so is what the rules leave of it: a set that isn't to be optimised stays as it is (ProGuard manual, "-dontoptimize")
abbrev pub SetsByRulesAreSwapped : Type 0
SetsByRulesAreSwapped = (wanted : Bool) (marks : List Bool) (classes : List Class) (o : Optimised) → IsTaken classes
    → AreTyped classes → IsOptimisedIf wanted marks classes o → IsSwapped classes (with_codes o.codes classes)

-- and each of its methods is typed (JVMS 4.10.1)
abbrev pub SetsByRulesAreTyped : Type 0
SetsByRulesAreTyped = (wanted : Bool) (marks : List Bool) (classes : List Class) (o : Optimised) → AreTyped classes
    → IsOptimisedIf wanted marks classes o → AreTyped (with_codes o.codes classes)
