-- Answers of `give_names`: what its calls ask for, and what it promises.
use Rattle.fresh_names.proofs.giving.give_names.Goals as goal

pub returns : goal.returns
returns g c = λ told tells. (c.in_ok-give_all.ensures told (c.in_ok-apply_all.ensures told tells)).found
