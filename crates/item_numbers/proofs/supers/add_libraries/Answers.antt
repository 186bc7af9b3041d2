-- Answers of `add_libraries`: what its calls ask for, and what it promises.
use Rattle.std.proofs.Common.{List, ap, sym, ◌∙◌, ◌++◌}
use Rattle.std.proofs.lemmas.List.{append-nil}
use Rattle.class_pool.specs.declared.id.ClassId.{ClassId}
use Rattle.class_pool.proofs.EachOnce.{once_none}
use Rattle.item_numbers.proofs.Meeting.{library_more}
use Rattle.item_numbers.proofs.supers.add_libraries.Goals as goal

pub loop-id-init : goal.loop-id-init
loop-id-init c = sym (ap (λ (t : List ClassId). c.args.found.now.items ++ t) (once_none c.args.found.now.items)
    ∙ append-nil c.args.found.now.items)

pub loop-id-preserved : goal.loop-id-preserved
loop-id-preserved c =
    library_more c.args.found.now.items c.args.ids.now c.loop-id.id-index c.id-item.result c.loop-id.found.items _
    c.loop-id-test.true c.id-item.is c.loop-id.invariant c.in_ok-add_library.ensures
