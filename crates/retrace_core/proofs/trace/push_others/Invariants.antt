use Rattle.std.proofs.Common.{◌≡◌, ◌++◌, flat_map, take}
use Rattle.mapping_file.specs.declared.mapping.MapClass.{MapClass}
use Rattle.retrace_core.specs.Retraced.{old_frame_text}
use Rattle.retrace_core.specs.bodies.Parts.{frame_shown}
use Rattle.retrace_core.specs.bodies.Tables.{TellsClass}
use Rattle.retrace_core.proofs.trace.push_others.Given as goal

abbrev pub invariant-loop-name : goal.invariant-loop-name
invariant-loop-name l = (c : MapClass) → TellsClass l.class c → l.out.items
    ≡ l.fn.out.items ++ flat_map (λ n. l.between ++ old_frame_text (frame_shown l.frame) c n)
    (take l.name-index l.others)
