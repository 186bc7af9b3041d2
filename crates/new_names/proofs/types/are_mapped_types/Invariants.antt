use Rattle.std.proofs.Common.{◌≡◌, length}
use Rattle.class_rename.specs.Renamed.{renamed_type}
use Rattle.new_names.specs.NewNames.{names_of}
use Rattle.new_names.specs.bodies.Comparing.{IsLeft}
use Rattle.new_names.proofs.types.are_mapped_types.Given as goal

abbrev pub invariant-loop-index : goal.invariant-loop-index
invariant-loop-index l = record {
  lengths : length l.old ≡ length l.new;
  left : IsLeft (renamed_type (names_of l.names)) l.old l.new l.index;
}
