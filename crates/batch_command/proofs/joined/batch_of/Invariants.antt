use Rattle.std.proofs.Common.{◌≡◌, ◌+◌, ◌++◌, length}
use Rattle.std.specs.Vec.Iter.{into_iter_items, into_iter_len}
use Rattle.batch_command.specs.Batch.{files_in, first_status, or_else, reports}
use Rattle.batch_command.proofs.joined.batch_of.Given as goal

abbrev pub invariant-loop-answer : goal.invariant-loop-answer
invariant-loop-answer l = record {
  files : l.files ++ files_in (into_iter_items l.answer-iterator) ≡ files_in l.fn.answers;
  text : l.text.items ++ reports (l.number + 1) (into_iter_items l.answer-iterator) ≡ reports 1 l.fn.answers;
  status : or_else l.status (first_status (into_iter_items l.answer-iterator)) ≡ first_status l.fn.answers;
  counted : l.number + length (into_iter_items l.answer-iterator) ≡ l.count;
  lasts : into_iter_len l.answer-iterator ≡ length (into_iter_items l.answer-iterator);
}
