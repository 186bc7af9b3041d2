use Rattle.std.proofs.Common.{◌≡◌, take}
use Rattle.run_values.specs.bodies.Cells.{cells}
use Rattle.run_values.proofs.locals.cells_of.Given as goal

abbrev pub invariant-loop-argument : goal.invariant-loop-argument
invariant-loop-argument l = l.slots.items ≡ cells (take l.argument-index l.arguments)
