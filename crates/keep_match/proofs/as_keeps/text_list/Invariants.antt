use Rattle.std.proofs.Common.{◌≡◌, take}
use Rattle.keep_match.proofs.as_keeps.text_list.Given as goal

abbrev pub invariant-loop-text : goal.invariant-loop-text
invariant-loop-text l = l.copies ≡ take l.text-index l.texts
