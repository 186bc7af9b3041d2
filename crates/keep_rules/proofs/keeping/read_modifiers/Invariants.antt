use Rattle.std.proofs.Common.{◌≡◌, length}
use Rattle.keep_rules.specs.Specifications.{modifiers, unmodified}
use Rattle.keep_rules.proofs.keeping.read_modifiers.Given as goal

abbrev pub invariant-loop-words : goal.invariant-loop-words
invariant-loop-words l = modifiers l.option l.modifiers l.words ≡ modifiers l.option (unmodified l.shrinking) l.fn.words

abbrev pub decreases-loop-words : goal.decreases-loop-words
decreases-loop-words l = length l.words.words
