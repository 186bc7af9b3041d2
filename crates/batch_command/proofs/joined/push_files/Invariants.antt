use Rattle.std.proofs.Common.{◌≡◌, ◌++◌, length}
use Rattle.std.specs.Vec.Iter.{into_iter_items, into_iter_len}
use Rattle.batch_command.specs.Batch.{files_of}
use Rattle.batch_command.proofs.joined.push_files.Given as goal

abbrev pub invariant-loop-file : goal.invariant-loop-file
invariant-loop-file l = record {
  files : l.files ++ into_iter_items l.file-iterator ≡ l.fn.files ++ files_of l.fn.answer;
  lasts : into_iter_len l.file-iterator ≡ length (into_iter_items l.file-iterator);
}
