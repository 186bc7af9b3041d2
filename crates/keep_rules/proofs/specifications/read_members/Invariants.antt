use Rattle.std.proofs.Common.{◌≡◌, length}
use Rattle.keep_rules.specs.Reader.{behind}
use Rattle.keep_rules.specs.Specifications.{members}
use Rattle.keep_rules.proofs.specifications.read_members.Given as goal

abbrev pub invariant-loop-alloc : goal.invariant-loop-alloc
invariant-loop-alloc l = behind l.members (members l.names l.words) ≡ members l.names l.fn.words

abbrev pub decreases-loop-alloc : goal.decreases-loop-alloc
decreases-loop-alloc l = length l.words.words
