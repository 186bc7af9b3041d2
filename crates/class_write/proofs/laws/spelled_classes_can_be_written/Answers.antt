-- Answers of `spelled_classes_can_be_written`: what its calls ask for, and what it promises.
use Rattle.class_laws.proofs.FormedFile.{spelled_writable}
use Rattle.class_write.proofs.SpellingLaw.{read_again}
use Rattle.class_write.proofs.laws.spelled_classes_can_be_written.Goals as goal

pub returns : goal.returns
returns c = record { writable = spelled_writable; again = read_again }
