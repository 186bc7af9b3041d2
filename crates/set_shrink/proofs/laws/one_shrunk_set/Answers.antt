-- Answers of `one_shrunk_set`: what its calls ask for, and what it promises.
use Rattle.set_shrink.proofs.OneShrunk.{not_both_shrunk, one_limit, one_shrunk}
use Rattle.set_shrink.proofs.laws.one_shrunk_set.Goals as goal

pub returns : goal.returns
returns c = record { set = one_shrunk; limit = one_limit; either = not_both_shrunk }
