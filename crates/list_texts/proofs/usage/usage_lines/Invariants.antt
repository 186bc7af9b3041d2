use Rattle.std.proofs.Common.{◌≡◌, ◌≤◌, length, take}
use Rattle.std.specs.Prelude.{string_bytes}
use Rattle.std.specs.List.{enumerate_from, flat_map}
use Rattle.class_pool.specs.Items.{class_item}
use Rattle.list_texts.specs.ItemTexts.{class_usage}
use Rattle.list_texts.proofs.usage.usage_lines.Given as goal

abbrev pub invariant-loop-number : goal.invariant-loop-number
invariant-loop-number l = record {
  text : string_bytes l.text ≡ flat_map (λ p. class_usage l.marks (class_item l.set p.0) p.1)
      (enumerate_from 0 (take l.number l.set));
  item : l.item ≡ class_item l.set l.number;
  short : length (string_bytes l.text) ≤ l.limit;
}
