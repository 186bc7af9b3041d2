-- Answers of `SharedLists::put`: what its calls ask for, and what it promises.
use Rattle.std.proofs.Common.{rules}
use Rattle.class_pool.proofs.Sharing.{last_put}
use Rattle.class_pool.proofs.hierarchy.shared_lists.SharedLists.put.Goals as goal

pub returns : goal.returns
returns c =
    last_put c.self.inside.blocks.items c.push.new.self.items c.self.inside.places.items c.args.self.now c.args.number
    c.len-block.result c.into_vec.result.items c.args.ids c.of.result c.self.view_is c.self.invariant
    c.in_ok-push.ensures.items c.of.ensures (search rules) c.into_vec.ensures
