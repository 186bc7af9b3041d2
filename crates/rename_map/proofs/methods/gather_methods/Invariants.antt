use Rattle.std.proofs.Common.{take}
use Rattle.class_rename.specs.Names.{is_same_method}
use Rattle.rename_map.specs.Fixed.{methods_of_each}
use Rattle.rename_map.specs.bodies.Adding.{Adds}
use Rattle.rename_map.proofs.methods.gather_methods.Given as goal

abbrev pub invariant-loop-number : goal.invariant-loop-number
invariant-loop-number l =
    Adds is_same_method l.fn.methods (methods_of_each l.rows (take l.number l.input)) l.methods
