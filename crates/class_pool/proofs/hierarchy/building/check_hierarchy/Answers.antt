-- Answers of `check_hierarchy`: what its calls ask for, and what it promises.
use Rattle.class_pool.proofs.CycleLaws.{cycles_passed}
use Rattle.class_pool.proofs.hierarchy.building.check_hierarchy.Goals as goal

pub returns : goal.returns
returns c =
    cycles_passed c.args.classes.now c.check_cycles.result c.in_ok-check_supertypes.ensures c.check_cycles.ensures.finds
    c.check_cycles.ensures.ranks
