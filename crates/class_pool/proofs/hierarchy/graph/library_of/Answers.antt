-- Answers of `library_of`: what its calls ask for, and what it promises.
use Rattle.class_pool.proofs.Graphing.{library_all, library_more}
use Rattle.class_pool.proofs.hierarchy.graph.library_of.Goals as goal

pub loop-name-preserved : goal.loop-name-preserved
loop-name-preserved c =
    library_more c.library_names-name-items.result.now c.loop-name.name-index _ c.loop-name.ids c.push_class.new.ids
    c.in_ok-from_str.field-0 c.loop-name-test.true c.loop-name.invariant
    c.in_ok-from_str.ensures c.in_ok-push_class.ensures

pub returns : goal.returns
returns c =
    library_all c.library_names-name-items.result.now c.loop-name.name-index c.loop-name.ids c.loop-name.invariant
    c.loop-name-test.false c.library_names-name-items.ensures
