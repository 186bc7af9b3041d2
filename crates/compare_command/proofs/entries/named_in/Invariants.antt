use Rattle.std.proofs.Common.{◌≡◌, drop}
use Rattle.std.specs.List.{find}
use Rattle.compare_command.specs.NewEntry.{is_line_of}
use Rattle.compare_command.proofs.entries.named_in.Given as goal

abbrev pub invariant-loop-line : goal.invariant-loop-line
invariant-loop-line l = find (is_line_of l.key) (drop l.line-index l.lines) ≡ find (is_line_of l.key) l.lines
