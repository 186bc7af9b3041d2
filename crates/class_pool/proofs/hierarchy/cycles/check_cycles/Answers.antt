-- Answers of `check_cycles`: what its calls ask for, and what it promises.
use Rattle.std.proofs.Common.{subst}
use Rattle.class_pool.specs.bodies.Cycles.{FindsRanks}
use Rattle.class_pool.proofs.CycleLaws.{none_cyclic}
use Rattle.class_pool.proofs.hierarchy.cycles.check_cycles.Goals as goal

pub returns-in-None-clause-finds : goal.returns-in-None-clause-finds
returns-in-None-clause-finds c =
    none_cyclic c.args.set.now (subst (FindsRanks c.args.set.now) c.in-None.is c.in_ok-number.ensures)
