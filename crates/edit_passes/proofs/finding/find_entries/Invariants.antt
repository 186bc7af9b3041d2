use Rattle.std.proofs.Common.{◌≡◌, drop}
use Rattle.edit_passes.specs.Found.{with_entries}
use Rattle.edit_passes.proofs.finding.find_entries.Given as goal

abbrev pub invariant-loop-handler : goal.invariant-loop-handler
invariant-loop-handler l =
    with_entries l.places (drop l.handler-index l.handlers) l.found
    ≡ with_entries l.places l.handlers l.fn.found
