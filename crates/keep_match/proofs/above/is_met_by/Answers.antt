-- Answers of `is_met_by`: what its calls ask for, and what it promises.
use Rattle.std.proofs.Common.{arith}
use Rattle.keep_match.proofs.SuperLaw.{met_above, met_next}
use Rattle.keep_match.proofs.above.is_met_by.Goals as goal

pub returns-then-is_met : goal.returns-then-is_met
returns-then-is_met c =
    met_above c.args.pattern.now c.args.set.now c.has_ranks.ensures c.args.number c.args.above
    (omega (arith, c.len-count.ensures)) c.requires.there c.requires.superclass c.args.is_met c.requires.known
    c.if-is_met.true

pub returns-else-is_met : goal.returns-else-is_met
returns-else-is_met c =
    met_next c.args.pattern.now c.args.set.now c.has_ranks.ensures c.args.number c.args.above
    (omega (arith, c.len-count.ensures)) c.requires.there c.requires.superclass c.args.is_met c.is_met_next.result
    c.requires.known c.if-is_met.false c.is_met_next.ensures
