use Rattle.std.proofs.Common.{◌≡◌, ◌++◌, drop, map}
use Rattle.set_meanings.proofs.names.push_set.Given as goal

abbrev pub invariant-loop-number : goal.invariant-loop-number
invariant-loop-number l = l.names ++ map (λ c. c.name) (drop l.number l.set) ≡ l.fn.names ++ map (λ c. c.name) l.set
