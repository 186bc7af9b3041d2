use Rattle.std.proofs.Common.{◌≡◌, length}
use Rattle.new_names.specs.NewNames.{names_of}
use Rattle.new_names.specs.bodies.Comparing.{IsLeft}
use Rattle.new_names.proofs.types.are_mapped_classes.Given as goal

abbrev pub invariant-loop-index : goal.invariant-loop-index
invariant-loop-index l = record {
  lengths : length l.old ≡ length l.new;
  left : IsLeft ((names_of l.names).class) l.old l.new l.index;
}
