use Rattle.std.proofs.Common.{take}
use Rattle.list_texts.specs.bodies.Places.{AreMarksOf}
use Rattle.list_texts.proofs.seeds.marks_of.Given as goal

abbrev pub invariant-loop-item : goal.invariant-loop-item
invariant-loop-item l = AreMarksOf l.set (take l.item-index l.items) l.marks.items
