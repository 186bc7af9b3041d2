-- Answers of `order_keeps_all`: what its calls ask for, and what it promises.
use Rattle.set_shrink.proofs.AllOrdered.{order_keeps_all}
use Rattle.set_shrink.proofs.laws.order_keeps_all.Goals as goal

pub returns : goal.returns
returns c = order_keeps_all
