use Rattle.text_lines.specs.bodies.Shared.{KeepsTold}
use Rattle.text_lines.proofs.table.no_values.Given as goal

abbrev pub invariant-loop : goal.invariant-loop
invariant-loop g l = KeepsTold g.V.Told.told_by l.trees.items
