use Rattle.std.proofs.Common.{◌≡◌, ◌≤◌, length, take}
use Rattle.std.specs.Prelude.{string_bytes}
use Rattle.std.specs.List.{enumerate_from, flat_map}
use Rattle.mark_core.specs.Marks.{set_of}
use Rattle.class_pool.specs.Items.{class_item}
use Rattle.list_texts.specs.ItemTexts.{item_texts, line_if}
use Rattle.list_texts.proofs.seeds.marked_lines.Given as goal

abbrev pub invariant-loop-number : goal.invariant-loop-number
invariant-loop-number l = record {
  text : string_bytes l.text
      ≡ flat_map (line_if (set_of l.marks)) (enumerate_from 0 (item_texts (take l.number l.set)));
  item : l.item ≡ class_item l.set l.number;
  short : length (string_bytes l.text) ≤ l.limit;
}
