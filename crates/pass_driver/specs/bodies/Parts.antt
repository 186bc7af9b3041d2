-- Methods that are looked at in parts (the project's own; only the code's contracts need it).
use Rattle.std.specs.Prelude.{◌≡◌, ℕ, ◌++◌, List, [], ◌∷◌, Some, slice_get}
use Rattle.std.specs.List.{AllByRecursion}
use Rattle.class_model.specs.WellFormed.{IsWellFormed}
use Rattle.class_model.specs.declared.class.Class.{Class}
use Rattle.pass_driver.specs.Optimised.{AreDone}
use Rattle.pass_driver.specs.bodies.Spotted.{IsSpot}
use Rattle.pass_driver.specs.declared.optimising.Optimised.{Optimised}
use Rattle.pass_driver.specs.declared.spots.Spot.{Spot}
use Rattle.type_verifier.specs.Verified.{AreTyped}

-- what has to hold of the set that a checker knows, of classes, and of spots that are looked at
abbrev pub CanBeDone : List Class → List Class → List Spot → Type 0
CanBeDone known classes spots = (known ≡ classes) × AllByRecursion (IsSpot classes) spots
    × ((n : ℕ) (c : Class) → slice_get classes n ≡ Some c → IsWellFormed c) × AreTyped classes

-- what became of the methods of spots
abbrev pub IsPartDone : List Class → List Spot → Optimised → Type 0
IsPartDone classes spots o = AreDone classes spots o.codes o.witness.methods o.fallback

-- what became of them, part after part
abbrev pub ArePartsDone : List Class → List Spot → List Optimised → Type 0
ArePartsDone classes spots [] = spots ≡ []
ArePartsDone classes spots (o ∷ parts) = (front : List Spot) × (back : List Spot) × (spots ≡ front ++ back)
    × IsPartDone classes front o × ArePartsDone classes back parts
