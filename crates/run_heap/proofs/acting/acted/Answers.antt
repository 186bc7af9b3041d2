-- Answers of `acted`: what its calls ask for, and what it promises.
use Rattle.run_heap.proofs.acting.acted.Goals as goal

pub returns-in-MakesText : goal.returns-in-MakesText
returns-in-MakesText c = rw c.in-MakesText.is (λ told are. c.make_text.ensures)

pub returns-in-Appends : goal.returns-in-Appends
returns-in-Appends c = rw c.in-Appends.is (λ told are. c.append.ensures told are)

pub returns-in-Writes : goal.returns-in-Writes
returns-in-Writes c = rw c.in-Writes.is (λ told are. c.write.ensures)
