-- Answers of `first_level`: what its calls ask for, and what it promises.
use Rattle.std.proofs.Common.{List, ℕ, subst}
use Rattle.mark_core.specs.Ranks.{NoneRises}
use Rattle.class_pool.proofs.CycleLaws.{first_of_ranks}
use Rattle.class_pool.proofs.hierarchy.cycles.first_level.Goals as goal

pub returns-clause-before : goal.returns-clause-before
returns-clause-before c =
    let rises : NoneRises c.args.hierarchy.now.needs c.args.ranks.now = subst
    (λ (ns : List (List ℕ)). NoneRises ns c.args.ranks.now) c.as_slice.ensures
    (c.none_rises.ensures.0 c.if-not-none_rises.false) in
    first_of_ranks c.args.set.now c.args.hierarchy.now c.args.ranks.now c.first_unranked.result c.requires rises
    c.first_unranked.ensures.there c.first_unranked.ensures.before
