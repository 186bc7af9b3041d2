use Rattle.std.proofs.Common.{◌≡◌, drop}
use Rattle.edit_tables.specs.Spread.{entered}
use Rattle.edit_tables.proofs.spreading.mark_entered.Given as goal

abbrev pub invariant-loop-handler : goal.invariant-loop-handler
invariant-loop-handler l =
    entered l.places (drop l.handler-index l.handlers) l.marks.items
    ≡ entered l.places l.handlers l.fn.marks.items
