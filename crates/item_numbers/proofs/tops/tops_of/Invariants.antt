use Rattle.item_numbers.specs.bodies.Tops.{AreLibraryTops, AreTops}
use Rattle.item_numbers.proofs.tops.tops_of.Given as goal

abbrev pub invariant-loop-number : goal.invariant-loop-number
invariant-loop-number l = record {
  methods : AreTops l.set l.tops.methods.items;
  libraries : AreLibraryTops l.set l.tops.libraries.items;
}
