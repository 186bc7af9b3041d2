use Rattle.std.proofs.Common.{◌≡◌, ◌++◌, ℕ, ◌<◌, ◌≤◌, true}
use Rattle.fresh_names.specs.Fresh.{fresh, is_taken}
use Rattle.fresh_names.specs.Given.{of_type}
use Rattle.fresh_names.specs.bodies.Giving.{front_in, stays_in}
use Rattle.fresh_names.proofs.fresh.next_free.Given as goal

abbrev pub invariant-loop : goal.invariant-loop
invariant-loop l = (l.fn.from ≤ l.number)
    × ((k : ℕ) → l.fn.from ≤ k → k < l.number
    → is_taken (stays_in l.stays l.group ++ of_type l.group l.news) (fresh (front_in l.stays l.group) k) ≡ true)
