-- Answers of `some_marks`: what its calls ask for, and what it promises.
use Rattle.shrink_command.proofs.SomeMarks.{some_marks}
use Rattle.shrink_command.proofs.laws.some_marks.Goals as goal

pub returns : goal.returns
returns c = some_marks
