use Rattle.std.proofs.Common.{◌≡◌, length}
use Rattle.keep_rules.specs.Reader.{behind}
use Rattle.keep_rules.specs.Filtering.{flags}
use Rattle.keep_rules.proofs.filtering.read_flags.Given as goal

abbrev pub invariant-loop-alloc : goal.invariant-loop-alloc
invariant-loop-alloc l = behind l.flags (flags l.part l.words) ≡ flags l.part l.fn.words

abbrev pub decreases-loop-alloc : goal.decreases-loop-alloc
decreases-loop-alloc l = length l.words.words
