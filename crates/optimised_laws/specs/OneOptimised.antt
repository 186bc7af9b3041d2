-- How many things may become of the codes of a set, as statements on all sets (the project's own).
use Rattle.std.specs.Prelude.{◌≡◌, Bool, List, length}
use Rattle.class_model.specs.declared.class.Class.{Class}
use Rattle.class_pool.specs.Count.{item_count}
use Rattle.image_laws.specs.TakenSet.TakenSet.{IsTaken}
use Rattle.pass_driver.specs.Optimised.{IsOptimisedIf}
use Rattle.pass_driver.specs.declared.optimising.Optimised.{Optimised}
use Rattle.type_verifier.specs.Verified.{AreTyped}

-- one thing becomes of the codes of a set that is taken and typed
abbrev pub OneIsOptimised : Type 0
OneIsOptimised = (wanted : Bool) (marks : List Bool) (classes : List Class) (one other : Optimised) → IsTaken classes
    → AreTyped classes → IsOptimisedIf wanted marks classes one → IsOptimisedIf wanted marks classes other → one ≡ other

-- and something does, where the marks are those of its items
abbrev pub SomeIsOptimised : Type 0
SomeIsOptimised = (wanted : Bool) (marks : List Bool) (classes : List Class) → IsTaken classes → AreTyped classes
    → length marks ≡ item_count classes → (o : Optimised) × IsOptimisedIf wanted marks classes o
