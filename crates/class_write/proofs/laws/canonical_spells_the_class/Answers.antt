-- Answers of `canonical_spells_the_class`: what its calls ask for, and what it promises.
use Rattle.class_write.proofs.SpelledFile.{layout_spells}
use Rattle.class_write.proofs.SpelledExample.{some_writable}
use Rattle.class_write.proofs.SpellingLaw.{written_spells, written_read, read_rewritten}
use Rattle.class_write.proofs.laws.canonical_spells_the_class.Goals as goal

pub returns : goal.returns
returns c = record {
  layout = layout_spells;
  written = written_spells;
  read = written_read;
  rewritten = read_rewritten;
  some = some_writable;
}
