use Rattle.std.proofs.Common.{◌<◌, ℕ}
use Rattle.class_pool.specs.bodies.Cycles.{HasTest}
use Rattle.class_pool.specs.bodies.Numbers.{IsHierarchy}
use Rattle.class_pool.specs.Supertypes.{IsCyclic}
use Rattle.class_pool.proofs.hierarchy.cycles.first_of_each.Given as goal

abbrev pub invariant-loop-number : goal.invariant-loop-number
invariant-loop-number l = IsHierarchy l.set l.hierarchy
    × ((n : ℕ) → n < l.number → IsCyclic l.set n → ⊥) × ((n : ℕ) → n < l.number → HasTest l.set n)
