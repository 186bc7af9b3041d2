-- Answers of `are_literal`: what its calls ask for, and what it promises.
use Rattle.keep_match.proofs.NameLaw.{literal_more}
use Rattle.keep_match.proofs.named.are_literal.Goals as goal

pub loop-filter-preserved : goal.loop-filter-preserved
loop-filter-preserved c =
    literal_more c.args.filters.now c.loop-filter.filter-index c.filter-item.result c.loop-filter.invariant
    c.filter-item.is (c.is_literal.ensures c.if-not-is_literal.false)
