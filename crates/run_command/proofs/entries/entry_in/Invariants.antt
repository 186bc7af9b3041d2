use Rattle.std.proofs.Common.{◌≡◌, drop}
use Rattle.run_command.specs.Entries.{class_entry, entry_in, first_given}
use Rattle.run_command.proofs.entries.entry_in.Given as goal

abbrev pub invariant-loop-number : goal.invariant-loop-number
invariant-loop-number l = first_given (class_entry l.set l.text) (drop l.number l.set) ≡ entry_in l.set l.text
