-- Answers of `is_path_of`: what its calls ask for, and what it promises.
use Rattle.class_pool.proofs.FaultLaws.{path_is_some, path_is_none}
use Rattle.class_pool.proofs.hierarchy.rounds.is_path_of.Goals as goal

pub returns-in-Some : goal.returns-in-Some
returns-in-Some c =
    path_is_some c.args.path.now c.args.name.now _ _ _ _ c.in-Some.rest.now c.eq.result c.as_bytes.ensures
    c.as_bytes-2.ensures c.as_slice.ensures
    c.in-Some.ensures.cases.0 c.in-Some.ensures.cases.1 c.eq.ensures

pub returns-in-None : goal.returns-in-None
returns-in-None c = path_is_none c.args.path.now c.args.name.now _ _ _ c.as_bytes.ensures c.as_bytes-2.ensures
    c.in-None.ensures.cases
