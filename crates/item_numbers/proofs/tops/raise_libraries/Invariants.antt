use Rattle.item_numbers.specs.bodies.Tops.{AreLibraryTops}
use Rattle.item_numbers.proofs.tops.raise_libraries.Given as goal

abbrev pub invariant-loop-at : goal.invariant-loop-at
invariant-loop-at l = AreLibraryTops l.set l.tops.items
