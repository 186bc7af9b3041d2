use Rattle.std.proofs.Common.{◌≡◌, ◌+◌, ◌≤◌, length}
use Rattle.std.specs.Str.Lines.{lines}
use Rattle.text_lines.specs.Lines.{read_lines}
use Rattle.witness_file.specs.WitnessReading.{all_methods, nothing, step}
use Rattle.witness_file.specs.bodies.MethodTable.{TellsMethods}
use Rattle.witness_file.proofs.reading.read_methods.Given as goal

abbrev pub invariant-loop-line : goal.invariant-loop-line
invariant-loop-line l = record {
  read : read_lines step l.number (lines l.rest) l.read ≡ read_lines step 1 (lines l.bytes) nothing;
  table : TellsMethods l.table (all_methods l.read);
  numbered : l.number + length (lines l.rest) ≡ 1 + length (lines l.bytes);
  counted : l.number + length l.rest ≤ 1 + length l.bytes;
}

abbrev pub decreases-loop-line : goal.decreases-loop-line
decreases-loop-line l = length l.rest
