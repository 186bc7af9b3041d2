use Rattle.std.proofs.Common.{take}
use Rattle.std.specs.List.{All}
use Rattle.mark_core.specs.bodies.Worklist.{Has, IsSound, Grows}
use Rattle.mark_core.proofs.plain.mark_all.Given as goal

abbrev pub invariant-loop-item : goal.invariant-loop-item
invariant-loop-item l = IsSound l.sys l.work × Grows l.fn.work l.work × All (Has l.work) (take l.item-index l.items)
