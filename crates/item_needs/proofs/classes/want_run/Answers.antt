-- Answers of `want_run`: what its calls ask for, and what it promises.
use Rattle.class_pool.specs.Found.{is_instance_method}
use Rattle.item_numbers.proofs.AloneLaw.{alone_run}
use Rattle.item_needs.proofs.classes.want_run.Goals as goal

pub returns-then-is_alone : goal.returns-then-is_alone
returns-then-is_alone c =
    alone_run c.args.wants.now c.args.number c.args.m.now
    (is_instance_method c.args.wants.now.classes c.args.m.now) (c.is_alone.ensures c.if-is_alone.true)
