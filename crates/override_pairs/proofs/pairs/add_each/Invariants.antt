use Rattle.std.proofs.Common.{map, take}
use Rattle.std.specs.List.{flat_map}
use Rattle.class_pool.specs.declared.id.ClassId.TheVariants.{Prog}
use Rattle.override_pairs.specs.bodies.Counting.{AddsPairs}
use Rattle.item_numbers.specs.bodies.Selecting.{pairs_in}
use Rattle.override_pairs.proofs.pairs.add_each.Given as goal

abbrev pub invariant-loop-above : goal.invariant-loop-above
invariant-loop-above l = AddsPairs l.fn.pairs
    (flat_map (pairs_in l.receiver.numbered.now.set.now l.number l.receiver.class)
    (map Prog (take l.above-index l.supers))) l.pairs
