use Rattle.std.proofs.Common.{◌≡◌, length}
use Rattle.new_names.specs.Mapped.{mapped_ins_if}
use Rattle.new_names.specs.NewNames.{names_of}
use Rattle.new_names.specs.bodies.Comparing.{IsLeft}
use Rattle.new_names.proofs.ops.is_mapped_code.Given as goal

abbrev pub invariant-loop-index : goal.invariant-loop-index
invariant-loop-index l = record {
  lengths : length l.old ≡ length l.new;
  left : IsLeft (mapped_ins_if (names_of l.names) l.lines) l.old l.new l.index;
}
