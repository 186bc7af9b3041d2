-- Answers of `accepts_attribute`: what its calls ask for, and what it promises.
use Rattle.std.proofs.Common.{sym}
use Rattle.keep_match.specs.Wildcards.{wild}
use Rattle.keep_match.proofs.Filtering.{accepts_is}
use Rattle.keep_match.proofs.filter.accepts_attribute.Goals as goal

pub loop-filter-init : goal.loop-filter-init
loop-filter-init c = sym (accepts_is (λ pattern. wild pattern c.args.name.now) c.args.filters.now)
