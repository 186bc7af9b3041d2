-- Answers of `libraries_met`: what its calls ask for, and what it promises.
use Rattle.std.proofs.Common.{List, ap, ◌∙◌, ◌++◌}
use Rattle.std.specs.List.{filter}
use Rattle.class_pool.specs.Walk.{each_once}
use Rattle.class_pool.specs.declared.id.ClassId.{ClassId}
use Rattle.item_numbers.specs.bodies.Supers.{is_library, own_once}
use Rattle.item_numbers.proofs.Meeting.{libraries_first, libraries_more}
use Rattle.item_numbers.proofs.supers.libraries_met.Goals as goal

pub loop-class-init : goal.loop-class-init
loop-class-init c =
    libraries_first c.args.chain.now c.add_libraries.new.found.items
    (c.in_ok-add_libraries.ensures
    ∙ ap (λ (t : List ClassId). t ++ each_once t (filter is_library c.args.chain.now)) c.new-ids.ensures.items)

pub loop-class-preserved : goal.loop-class-preserved
loop-class-preserved c =
    libraries_more (own_once c.args.set.now) c.args.chain.now c.args.chain.now c.loop-class.class-index
    c.class-item.result c.loop-class.ids.items _ c.loop-class-test.true c.class-item.is c.loop-class.invariant
    (c.in_ok-add_libraries-2.ensures
    ∙ ap (λ (t : List ClassId). c.loop-class.ids.items ++ each_once c.loop-class.ids.items (filter is_library t))
    c.own_superinterfaces.ensures.are)
