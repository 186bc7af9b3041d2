use Rattle.std.proofs.Common.{◌≡◌, take}
use Rattle.list_texts.specs.ItemTexts.{item_texts}
use Rattle.why_command.proofs.items.item_texts.Given as goal

abbrev pub invariant-loop-number : goal.invariant-loop-number
invariant-loop-number l = l.texts ≡ item_texts (take l.number l.set)
