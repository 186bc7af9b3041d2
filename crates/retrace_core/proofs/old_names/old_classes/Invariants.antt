use Rattle.std.proofs.Common.{take}
use Rattle.retrace_core.specs.bodies.Tables.{TellsClasses}
use Rattle.retrace_core.proofs.old_names.old_classes.Given as goal

abbrev pub invariant-loop-class : goal.invariant-loop-class
invariant-loop-class l = TellsClasses l.table (take l.class-index l.fn.map.classes)
