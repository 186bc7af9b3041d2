-- Answers of `mark_pattern`: what its calls ask for, and what it promises.
use Rattle.keep_match.proofs.MarkLaw.{added_found, added_unnamed}
use Rattle.keep_match.proofs.seeds.mark_pattern.Goals as goal

pub returns-in_default : goal.returns-in_default
returns-in_default c =
    added_unnamed c.args.set.now c.args.keep.now c.args.rows.now.items c.args.pattern.now c.in_default.ensures

pub mark_class-requires-clause-named : goal.mark_class-requires-clause-named
mark_class-requires-clause-named c =
    λ d is. c.requires.accepted c.in-Some.number d is (c.in-Some.ensures.named d is)

pub returns : goal.returns
returns c =
    added_found c.args.set.now c.args.keep.now c.args.rows.now.items _ c.args.pattern.now c.in-Some.number
    c.in-Some.ensures c.mark_class.ensures
