use Rattle.std.proofs.Common.{◌≡◌, ◌++◌, length}
use Rattle.mapping_file.specs.declared.mapping.Mapping.{Mapping}
use Rattle.retrace_core.specs.Retraced.{retraced}
use Rattle.retrace_core.specs.bodies.Tables.{TellsClasses}
use Rattle.retrace_core.proofs.trace.push_lines.Given as goal

abbrev pub invariant-loop-part : goal.invariant-loop-part
invariant-loop-part l = (m : Mapping) → TellsClasses l.table m.classes
    → l.out.items ++ retraced m l.rest ≡ l.fn.out.items ++ retraced m l.fn.trace

abbrev pub decreases-loop-part : goal.decreases-loop-part
decreases-loop-part l = length l.rest
