-- Methods that are looked at one after another (the project's own; only the code's contracts need it).
use Rattle.std.specs.Prelude.{◌≡◌, ◌+◌, ◌++◌, List}
use Rattle.class_model.specs.declared.class.Class.{Class}
use Rattle.class_model.specs.declared.class.Method.{Method}
use Rattle.class_model.specs.declared.code.Code.{Code}
use Rattle.pass_driver.specs.Optimised.{IsAt, code_for, entry_for, fallback_for}
use Rattle.pass_driver.specs.Outcomes.{IsOutcome}
use Rattle.pass_driver.specs.declared.judging.Outcome.{Outcome}
use Rattle.pass_driver.specs.declared.optimising.Optimised.{Optimised}
use Rattle.pass_driver.specs.declared.spots.Spot.{Spot}

-- a method with a code is at the spot
pub record IsSpot (classes : List Class) (s : Spot) : Type 0 where
  pub of : Class
  pub method : Method
  pub code : Code
  pub at : IsAt classes s of method code

-- its outcome was appended
pub record IsSpotDone (classes : List Class) (s : Spot) (old new : Optimised) : Type 0 where
  pub spot : IsSpot classes s
  pub outcome : Outcome
  pub is : IsOutcome classes s.class s.method spot.code outcome
  pub codes : new.codes ≡ old.codes ++ code_for s outcome
  pub entries : new.witness.methods ≡ old.witness.methods ++ entry_for spot.of spot.method outcome
  pub fallback : new.fallback ≡ old.fallback + fallback_for outcome
