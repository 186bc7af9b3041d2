use Rattle.std.proofs.Common.{◌≡◌, ◌∷◌, take}
use Rattle.class_pool.specs.bodies.Numbers.{numbers_named}
use Rattle.class_pool.proofs.hierarchy.cycles.above.Given as goal

abbrev pub invariant-loop-name : goal.invariant-loop-name
invariant-loop-name l = l.numbers ≡ numbers_named l.set (l.class.super_name ∷ take l.name-index l.class.interfaces)
