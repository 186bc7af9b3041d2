-- Answers of `match_each`: what its calls ask for, and what it promises.
use Rattle.std.proofs.Common.{◌∙◌, arith, sym}
use Rattle.keep_match.proofs.Arguments.{each_end, each_fails, each_on, lengths_differ}
use Rattle.keep_match.proofs.type_pattern.match_each.Goals as goal

pub returns-then-patterns-types : goal.returns-then-patterns-types
returns-then-patterns-types c = sym (lengths_differ _ _ c.if-patterns-types.true)

pub returns-then-not-matches_type : goal.returns-then-not-matches_type
returns-then-not-matches_type c =
    sym (each_fails c.args.patterns.now c.args.types.now c.loop-at.at c.index-patterns-at.result c.as_str.result.now
    c.index-types-at.result c.loop-at-test.true c.if-patterns-types.false c.index-patterns-at.is c.index-types-at.is
    c.as_str.ensures c.if-not-matches_type.ensures) ∙ c.loop-at.invariant

pub loop-at-preserved : goal.loop-at-preserved
loop-at-preserved c =
    sym (each_on c.args.patterns.now c.args.types.now c.loop-at.at c.index-patterns-at.result c.as_str.result.now
    c.index-types-at.result c.loop-at-test.true c.if-patterns-types.false c.index-patterns-at.is c.index-types-at.is
    c.as_str.ensures c.if-not-matches_type.ensures) ∙ c.loop-at.invariant

pub returns : goal.returns
returns c = sym (each_end _ _ c.loop-at.at (omega arith) c.if-patterns-types.false) ∙ c.loop-at.invariant
