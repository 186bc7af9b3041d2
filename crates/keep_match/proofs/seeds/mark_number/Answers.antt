-- Answers of `mark_number`: what its calls ask for, and what it promises.
use Rattle.keep_match.proofs.MarkLaw.{added_put, named_at, unnamed_at}
use Rattle.keep_match.proofs.seeds.mark_number.Goals as goal

pub returns-then-not-accepts_class : goal.returns-then-not-accepts_class
returns-then-not-accepts_class c =
    unnamed_at c.args.set.now c.args.keep.now c.args.number c.class.result.now c.as_str-name.result.now
    c.as_slice.result.now
    c.class.ensures.is c.requires.keeps c.as_str-name.ensures c.as_slice.ensures c.args.rows.now.items
    c.if-not-accepts_class.ensures

pub mark_class-requires-clause-named : goal.mark_class-requires-clause-named
mark_class-requires-clause-named c =
    named_at c.args.set.now c.args.keep.now c.args.number c.class.result.now c.as_str-name.result.now
    c.as_slice.result.now
    c.class.ensures.is c.requires.keeps c.as_str-name.ensures c.as_slice.ensures c.if-not-accepts_class.ensures

pub returns : goal.returns
returns c =
    added_put c.args.set.now c.args.keep.now c.args.rows.now.items _ c.args.number c.class.result.now c.class.ensures.is
    c.requires.there c.mark_class.ensures
