use Rattle.std.proofs.Common.{◌≡◌, length}
use Rattle.keep_rules.specs.Reader.{behind}
use Rattle.keep_rules.specs.Specifications.{types}
use Rattle.keep_rules.proofs.specifications.read_types.Given as goal

abbrev pub invariant-loop-types : goal.invariant-loop-types
invariant-loop-types l = behind l.types (types l.words) ≡ types l.fn.words

abbrev pub decreases-loop-types : goal.decreases-loop-types
decreases-loop-types l = length l.words.words
