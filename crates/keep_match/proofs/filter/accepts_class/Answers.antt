-- Answers of `accepts_class`: what its calls ask for, and what it promises.
use Rattle.std.proofs.Common.{sym}
use Rattle.keep_match.specs.Matches.{matches_class_name}
use Rattle.keep_match.proofs.Filtering.{accepts_is}
use Rattle.keep_match.proofs.filter.accepts_class.Goals as goal

pub loop-filter-init : goal.loop-filter-init
loop-filter-init c = sym (accepts_is (λ pattern. matches_class_name pattern c.args.name.now) c.args.filters.now)
