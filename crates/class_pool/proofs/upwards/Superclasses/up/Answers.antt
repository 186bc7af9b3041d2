-- Answers of `Superclasses::up`: what its calls ask for, and what it promises.
use Rattle.class_pool.proofs.Climbing.{up_there, upwards_there}
use Rattle.class_pool.proofs.upwards.Superclasses.up.Goals as goal

pub returns-clause-there : goal.returns-clause-there
returns-clause-there c = up_there 8589934592 c.args.set.now
    (upwards_there 8589934592 c.args.set.now) c.args.next c.requires
