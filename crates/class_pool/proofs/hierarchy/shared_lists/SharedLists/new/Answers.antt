-- Answers of `SharedLists::new`: what its calls ask for, and what it promises.
use Rattle.std.proofs.Common.{rules}
use Rattle.class_pool.proofs.Sharing.{none_all}
use Rattle.class_pool.proofs.hierarchy.shared_lists.SharedLists.new.Goals as goal

pub returns-clause-none : goal.returns-clause-none
returns-clause-none c =
    none_all c.push.new.self.items c.args.count (record { block = 0; start = 0 }) c.in_ok-places.places.items
    (search rules) (search rules)
