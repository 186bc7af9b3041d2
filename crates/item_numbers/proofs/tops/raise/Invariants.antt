use Rattle.item_numbers.specs.bodies.Tops.{AreTops}
use Rattle.item_numbers.proofs.tops.raise.Given as goal

abbrev pub invariant-loop-at : goal.invariant-loop-at
invariant-loop-at l = AreTops l.set l.tops.items
