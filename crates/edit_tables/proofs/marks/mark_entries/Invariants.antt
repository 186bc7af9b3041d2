use Rattle.std.proofs.Common.{◌≡◌, drop}
use Rattle.edit_tables.specs.Marks.{with_entries}
use Rattle.edit_tables.proofs.marks.mark_entries.Given as goal

abbrev pub invariant-loop-handler : goal.invariant-loop-handler
invariant-loop-handler l =
    with_entries (drop l.handler-index l.handlers) l.marks.items
    ≡ with_entries l.handlers l.fn.marks.items
