use Rattle.std.proofs.Common.{◌≡◌, drop}
use Rattle.run_heap.specs.Held.{found_in}
use Rattle.run_heap.proofs.fields.find.Given as goal

abbrev pub invariant-loop-field : goal.invariant-loop-field
invariant-loop-field l = found_in l.key l.fields ≡ found_in l.key (drop l.field-index l.fields)
