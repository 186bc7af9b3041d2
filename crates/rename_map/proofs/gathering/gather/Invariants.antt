use Rattle.std.proofs.Common.{take}
use Rattle.rename_map.specs.Fixed.{of_each}
use Rattle.jv_base.specs.Names.{is_text}
use Rattle.rename_map.specs.bodies.Adding.{Adds}
use Rattle.rename_map.proofs.gathering.gather.Given as goal

abbrev pub invariant-loop-number : goal.invariant-loop-number
invariant-loop-number l = Adds is_text l.fn.names (of_each l.what l.rows (take l.number l.input)) l.names
