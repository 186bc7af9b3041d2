use Rattle.std.proofs.Common.{◌≡◌, length, map}
use Rattle.std.specs.Vec.Iter.{into_iter_items, into_iter_len}
use Rattle.attribute_filter.specs.Filtered.{filtered}
use Rattle.set_shrink.proofs.Written.{AreWritten}
use Rattle.set_shrink.proofs.files.files_of.Given as goal

abbrev pub invariant-loop-written : goal.invariant-loop-written
invariant-loop-written g l = record {
  written : AreWritten (map (filtered l.filter) l.fn.classes) l.directory l.files (into_iter_items l.written-iterator);
  counted : into_iter_len l.written-iterator ≡ length (into_iter_items l.written-iterator);
}
