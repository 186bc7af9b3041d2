-- Answers of `answers_tell_why`: what its calls ask for, and what it promises.
use Rattle.why_command.proofs.Answered as answered
use Rattle.why_command.proofs.laws.answers_tell_why.Goals as goal

pub returns : goal.returns
returns c = answered.answers_tell_why
