use Rattle.std.proofs.Common.{◌≡◌, drop}
use Rattle.std.specs.List.{find}
use Rattle.run_command.specs.Entries.{is_entry_of}
use Rattle.run_command.proofs.entries.method_entry.Given as goal

abbrev pub invariant-loop-method : goal.invariant-loop-method
invariant-loop-method l = find (is_entry_of l.set l.class l.spelled) (drop l.method-index l.methods)
    ≡ find (is_entry_of l.set l.class l.spelled) l.methods
