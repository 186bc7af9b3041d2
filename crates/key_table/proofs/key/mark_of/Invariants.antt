use Rattle.std.proofs.Common.{◌≡◌, drop}
use Rattle.std.specs.List.{fold}
use Rattle.key_table.specs.Marks.{with_mark}
use Rattle.key_table.proofs.key.mark_of.Given as goal

abbrev pub invariant-loop-item : goal.invariant-loop-item
invariant-loop-item g l =
    fold (with_mark g.T.Key.mark) l.mark (drop l.item-index l.items) ≡ fold (with_mark g.T.Key.mark) 0 l.items
