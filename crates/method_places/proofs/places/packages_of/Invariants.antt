use Rattle.std.proofs.Common.{◌≡◌, map, take}
use Rattle.class_pool.specs.Found.{package_of}
use Rattle.method_places.specs.bodies.Places.{package_number}
use Rattle.method_places.proofs.places.packages_of.Given as goal

abbrev pub invariant-loop-number : goal.invariant-loop-number
invariant-loop-number l =
    l.packages ≡ map (λ c. package_number l.names (package_of c.name)) (take l.number l.set)
