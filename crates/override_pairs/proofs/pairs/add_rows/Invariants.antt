use Rattle.std.proofs.Common.{map, take}
use Rattle.std.specs.List.{filter, filter_map}
use Rattle.require_sys.specs.Requires.{is_inheritable}
use Rattle.method_places.specs.bodies.Alike.{member_at}
use Rattle.override_pairs.specs.bodies.Counting.{AddsPairs}
use Rattle.item_numbers.specs.bodies.Selecting.{pair_with}
use Rattle.override_pairs.proofs.pairs.add_rows.Given as goal

abbrev pub invariant-loop-row : goal.invariant-loop-row
invariant-loop-row l = AddsPairs l.fn.pairs
    (filter_map (pair_with l.receiver.numbered.now.set.now l.class.own l.receiver.class)
    (filter (is_inheritable l.receiver.numbered.now.set.now) (map member_at (take l.row-index l.rows)))) l.pairs
