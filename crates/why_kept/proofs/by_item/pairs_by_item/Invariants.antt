use Rattle.std.proofs.Common.{take}
use Rattle.why_kept.specs.bodies.ByItem.{IsByItemOf}
use Rattle.why_kept.proofs.by_item.pairs_by_item.Given as goal

abbrev pub invariant-loop-pair : goal.invariant-loop-pair
invariant-loop-pair l = IsByItemOf l.sys (take l.pair-index l.sys.pairs) l.lists.items
