use Rattle.std.proofs.Common.{◌≡◌, take}
use Rattle.std.specs.List.{flat_map}
use Rattle.link_check.specs.Profile.{least, methods_of, selected_kinds}
use Rattle.link_check.proofs.overriding.implemented.interfaces_kind.Given as goal

abbrev pub invariant-loop-interface : goal.invariant-loop-interface
invariant-loop-interface l = l.kind
    ≡ least (flat_map (λ i. flat_map (selected_kinds l.set l.number) (methods_of l.set i))
    (take l.interface-index l.interfaces))
