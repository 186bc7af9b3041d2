-- Answers of `computed_same`: what its calls ask for, and what it promises.
use Rattle.same_rows.proofs.Computed as computed
use Rattle.same_rows.proofs.Promised as promised
use Rattle.same_rows.proofs.rows.computed_same.Goals as goal

pub returns : goal.returns
returns c = record {
  entry = computed.entry_is;
  begin = computed.may_begin;
  taken = promised.both_taken;
  pair = promised.pair_is;
  marks = computed.marks_are;
  shrunk = computed.shrunk_is;
  texts = computed.texts_are;
  names = computed.names_are;
  same = promised.does_the_same;
  paired = promised.is_paired c.own_files_are_paired.ensures;
  run = computed.runs_are;
}
