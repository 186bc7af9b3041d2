use Rattle.std.proofs.Common.{◌≡◌, map, take}
use Rattle.const_facts.specs.Order.{int_of}
use Rattle.const_facts.proofs.held.ints.Given as goal

abbrev pub invariant-loop-held : goal.invariant-loop-held
invariant-loop-held l = l.ints.items ≡ map int_of (take l.held-index l.held)
