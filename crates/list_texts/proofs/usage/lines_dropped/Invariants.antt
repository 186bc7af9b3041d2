use Rattle.std.proofs.Common.{◌≡◌, ◌≤◌, length, take}
use Rattle.std.specs.Prelude.{string_bytes}
use Rattle.std.specs.List.{enumerate_from, flat_map}
use Rattle.report_text.specs.Spelled.{member_texts}
use Rattle.list_texts.specs.ItemTexts.{dropped_line}
use Rattle.list_texts.proofs.usage.lines_dropped.Given as goal

abbrev pub invariant-loop-member : goal.invariant-loop-member
invariant-loop-member l = record {
  lines : string_bytes l.lines
      ≡ flat_map (dropped_line l.marks) (take l.member (enumerate_from l.first (member_texts l.class)));
  short : length (string_bytes l.lines) ≤ l.limit;
}
