use Rattle.std.proofs.Common.{length}
use Rattle.const_tables.proofs.facts.+named_by_all.Given as goal

abbrev pub decreases-named_by_all : goal.decreases-named_by_all
decreases-named_by_all l = length l.acts.now
