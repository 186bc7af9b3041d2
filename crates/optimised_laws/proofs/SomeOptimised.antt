-- Something becomes of the codes of a set.
use Rattle.std.proofs.Common.{ℕ, ◌+◌, true, false, List, [], ◌∷◌, ◌++◌, refl}
use Rattle.std.specs.List.{AllByRecursion}
use Rattle.class_model.specs.declared.class.Class.{Class}
use Rattle.class_model.specs.declared.class.Method.{Method}
use Rattle.class_model.specs.declared.code.Code.{Code}
use Rattle.code_edit.specs.SoundCode.{IsSound}
use Rattle.optimised_laws.specs.OneOptimised.{SomeIsOptimised}
use Rattle.pass_driver.specs.Optimised.{AreDone, IsAt, as_it_is, code_for, entry_for, fallback_for, spots}
use Rattle.pass_driver.specs.bodies.Spotted.{IsSpot}
use Rattle.pass_driver.specs.declared.optimising.NewCode.{NewCode}
use Rattle.pass_driver.specs.declared.spots.Spot.{Spot}
use Rattle.pass_driver.proofs.Spotting.{all_spotted}
use Rattle.witness_file.specs.declared.witness.MethodWitness.{MethodWitness}
use Rattle.optimised_laws.proofs.OneStep.{spot_sound}
use Rattle.optimised_laws.proofs.SomeOutcome.{some_outcome}

module _ (classes : List Class)
    (sounds : (s : Spot) (c : Class) (m : Method) (code : Code) → IsAt classes s c m code → IsSound code) where
  abbrev SomeDone : List Spot → Type 0
  SomeDone spots =
      (codes : List NewCode) × (entries : List MethodWitness) × (count : ℕ) × AreDone classes spots codes entries count

  some_done : (spots : List Spot) → AllByRecursion (IsSpot classes) spots → SomeDone spots
  some_done [] all = ([], [], 0, (refl, refl, refl))
  some_done (s ∷ spots) all =
      let spot : IsSpot classes s = all.0 in
      let out = some_outcome classes s.class s.method spot.code
      (sounds s spot.of spot.method spot.code spot.at) in
      let rest = some_done spots all.1 in (
        code_for s out.0 ++ rest.0,
        entry_for spot.of spot.method out.0 ++ rest.1,
        fallback_for out.0 + rest.2,
        (
          spot.of,
          spot.method,
          spot.code,
          spot.at,
          out.0,
          out.1,
          rest.0,
          rest.1,
          rest.2,
          refl,
          refl,
          refl,
          rest.3,
        ),
      )

pub some_optimised : SomeIsOptimised
some_optimised true marks classes taken typed count =
    let r = some_done classes (spot_sound classes taken typed) (spots marks classes) (all_spotted marks classes) in
    (record { codes = r.0; witness = record { methods = r.1 }; fallback = r.2 }, r.3)
some_optimised false marks classes taken typed count = (as_it_is, refl)
