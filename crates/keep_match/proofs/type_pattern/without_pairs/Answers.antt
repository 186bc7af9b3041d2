-- Answers of `without_pairs`: what its calls ask for, and what it promises.
use Rattle.std.proofs.Common.{◌∙◌, arith, rules, sym}
use Rattle.keep_match.proofs.Pairs.{pairs_end, pairs_more, pairs_stop}
use Rattle.keep_match.proofs.type_pattern.without_pairs.Goals as goal

pub returns-in_err-front : goal.returns-in_err-front
returns-in_err-front c =
    let e = sym (pairs_stop _ _ c.loop-left-test.true c.in_err-front.ensures) ∙ c.loop-left.invariant.1 in
    search rules

pub loop-left-preserved : goal.loop-left-preserved
loop-left-preserved c = (
  search rules,
  sym (pairs_more _ _ _ c.loop-left-test.true c.in_ok-front.ensures) ∙ c.loop-left.invariant.1,
)

pub returns : goal.returns
returns c = sym (pairs_end _ _ (omega arith)) ∙ c.loop-left.invariant.1
