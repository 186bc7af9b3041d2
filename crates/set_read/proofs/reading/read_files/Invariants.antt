use Rattle.std.proofs.Common.{◌≡◌, length}
use Rattle.std.specs.Vec.Iter.{into_iter_items, into_iter_len}
use Rattle.set_read.proofs.Files.{ReadSoFar}
use Rattle.set_read.proofs.reading.read_files.Given as goal

abbrev pub invariant-loop-file : goal.invariant-loop-file
invariant-loop-file l = record {
  read : ReadSoFar l.fn.files (into_iter_items l.file-iterator) l.classes;
  counted : into_iter_len l.file-iterator ≡ length (into_iter_items l.file-iterator);
}
