-- Answers of `taken_sets_break_no_rule`: what its calls ask for, and what it promises.
use Rattle.link_check.proofs.Taken.{links_taken}
use Rattle.link_check.proofs.laws.taken_sets_break_no_rule.Goals as goal

pub returns : goal.returns
returns c = links_taken
