use Rattle.std.proofs.Common.{◌≡◌, ◌+◌, ◌≤◌, length}
use Rattle.std.specs.Str.Lines.{lines}
use Rattle.text_lines.specs.Lines.{read_lines}
use Rattle.mapping_file.specs.MapReading.{all_classes, nothing, step}
use Rattle.mapping_file.specs.bodies.NameTable.{TellsNames}
use Rattle.mapping_file.proofs.reading.read_classes.Given as goal

abbrev pub invariant-loop-line : goal.invariant-loop-line
invariant-loop-line l = record {
  read : read_lines step l.number (lines l.rest) l.read ≡ read_lines step 1 (lines l.bytes) nothing;
  names : TellsNames l.names (all_classes l.read);
  counted : l.number + length l.rest ≤ 1 + length l.bytes;
}

abbrev pub decreases-loop-line : goal.decreases-loop-line
decreases-loop-line l = length l.rest
