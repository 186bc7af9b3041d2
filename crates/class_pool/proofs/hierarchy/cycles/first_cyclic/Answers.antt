-- Answers of `first_cyclic`: what its calls ask for, and what it promises.
use Rattle.std.proofs.Common.{List, ℕ, subst}
use Rattle.mark_core.specs.Ranks.{IsRanked}
use Rattle.class_pool.proofs.CycleLaws.{ranked}
use Rattle.class_pool.proofs.hierarchy.cycles.first_cyclic.Goals as goal

pub returns-then-branch : goal.returns-then-branch
returns-then-branch c =
    let ranks = c.in_ok-is_ranked.ensures c.if-branch.true in
    ranked c.args.set.now c.in_ok-hierarchy.hierarchy ranks.0 c.in_ok-hierarchy.ensures
    (subst (λ (ns : List (List ℕ)). IsRanked ns ranks.0) c.as_slice.ensures ranks.1)
