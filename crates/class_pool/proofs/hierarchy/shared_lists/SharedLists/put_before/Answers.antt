-- Answers of `SharedLists::put_before`: what its calls ask for, and what it promises.
use Rattle.std.proofs.Common.{rules}
use Rattle.class_pool.proofs.Sharing.{put_before_is}
use Rattle.class_pool.proofs.hierarchy.shared_lists.SharedLists.put_before.Goals as goal

pub returns : goal.returns
returns c =
    rw (c.before-2.ensures)
    (put_before_is c.self.inside.blocks.items c.place_behind.new.blocks.items c.self.inside.places.items
    c.args.self.now c.args.number c.args.behind c.index.result.now c.in_ok-place.place c.args.class.now
    c.self.view_is c.self.invariant c.place_behind.ensures.keeps c.requires.behind (search rules)
    c.in_ok-place.ensures.ids c.in_ok-place.ensures.stands)
