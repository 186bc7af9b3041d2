use Rattle.std.proofs.Common.{◌≡◌, ◌-◌, vec_len}
use Rattle.type_verifier.specs.Frames.{padded}
use Rattle.type_verifier.proofs.framing.pad.Given as goal

abbrev pub invariant-loop-words : goal.invariant-loop-words
invariant-loop-words l = padded l.max_locals l.words.items ≡ padded l.max_locals l.fn.words.items

abbrev pub decreases-loop-words : goal.decreases-loop-words
decreases-loop-words l = l.max_locals - vec_len l.words
