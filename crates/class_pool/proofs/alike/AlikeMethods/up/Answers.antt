-- Answers of `AlikeMethods::up`: what its calls ask for, and what it promises.
use Rattle.class_pool.specs.Found.{named_at}
use Rattle.class_pool.proofs.Climbing.{up_there, upwards_there}
use Rattle.class_pool.proofs.Declaring.{all_declared}
use Rattle.class_pool.proofs.alike.AlikeMethods.up.Goals as goal

pub returns-clause-there : goal.returns-clause-there
returns-clause-there c =
    all_declared c.args.set.now (named_at c.args.set.now c.args.m) _
    (up_there 8589934592 c.args.set.now (upwards_there 8589934592 c.args.set.now) c.args.next c.requires.class)
