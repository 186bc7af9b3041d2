use Rattle.std.proofs.Common.{◌≡◌}
use Rattle.class_pool.specs.Found.{is_instance_method}
use Rattle.class_pool.specs.declared.id.ClassId.TheVariants.{Lib}
use Rattle.item_numbers.specs.bodies.Selecting.{called_item}
use Rattle.item_numbers.specs.bodies.Wanting.{wanting}
use Rattle.item_numbers.proofs.Membering.{of_first}
use Rattle.item_needs.proofs.classes.want_called_in.Given as goal

abbrev pub invariant-loop-at : goal.invariant-loop-at
invariant-loop-at l = l.wants ≡ wanting l.fn.wants (of_first l.fn.wants.classes (Lib l.id)
    (is_instance_method l.fn.wants.classes) (called_item l.fn.wants.classes l.number) l.at)
