use Rattle.std.proofs.Common.{◌≡◌}
use Rattle.std.specs.List.{list_any}
use Rattle.class_pool.specs.Resolution.{is_subinterface}
use Rattle.class_pool.specs.Walk.{same_class}
use Rattle.link_check.proofs.references.superinterface_methods.is_subinterface.Given as goal

abbrev pub invariant-loop-interface : goal.invariant-loop-interface
invariant-loop-interface l = list_any (same_class l.above) l.interface-iterator
    ≡ is_subinterface l.set l.fn.below l.above
