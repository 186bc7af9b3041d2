-- Answers of `push_interfaces`: what its calls ask for, and what it promises.
use Rattle.std.proofs.Common.{List, ap, sym, ◌∙◌, ◌++◌}
use Rattle.std.specs.List.{filter_map}
use Rattle.std.proofs.lemmas.List.{append-nil}
use Rattle.class_pool.specs.declared.id.ClassId.{ClassId}
use Rattle.item_numbers.specs.bodies.Supers.{other_number, own_once}
use Rattle.item_numbers.proofs.Meeting.{list_more}
use Rattle.item_numbers.proofs.supers.push_interfaces.Goals as goal

pub loop-class-init : goal.loop-class-init
loop-class-init c = sym (append-nil c.args.numbers.now.items)

pub loop-class-preserved : goal.loop-class-preserved
loop-class-preserved c =
    list_more (other_number c.args.own) (own_once c.args.set.now) c.args.chain.now c.loop-class.class-index
    c.class-item.result c.args.numbers.now.items c.loop-class.numbers.items _ c.loop-class-test.true c.class-item.is
    c.loop-class.invariant
    (c.in_ok-push_others.ensures
    ∙ ap (λ (t : List ClassId). c.loop-class.numbers.items ++ filter_map (other_number c.args.own) t)
    c.own_superinterfaces.ensures.are)
