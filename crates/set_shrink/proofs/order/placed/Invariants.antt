use Rattle.std.proofs.Common.{◌≡◌, []}
use Rattle.std.specs.Vec.Iter.{into_iter_items}
use Rattle.set_shrink.specs.Order.{put_at_paths}
use Rattle.set_shrink.proofs.order.placed.Given as goal

abbrev pub invariant-loop-class : goal.invariant-loop-class
invariant-loop-class l = put_at_paths l.map.entries (into_iter_items l.class-iterator) ≡ put_at_paths [] l.fn.classes
