use Rattle.std.proofs.Common.{◌≡◌, map, take}
use Rattle.command_words.proofs.words.words_in.Given as goal

abbrev pub invariant-loop-word : goal.invariant-loop-word
invariant-loop-word l = l.copied ≡ map (λ t. t.now) (take l.word-index l.words)
