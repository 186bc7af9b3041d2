use Rattle.std.proofs.Common.{◌≡◌, [], take, cond}
use Rattle.std.specs.List.{flat_map}
use Rattle.class_pool.specs.Found.{is_instance_method}
use Rattle.link_check.specs.Profile.{least, selected_kinds}
use Rattle.link_check.proofs.Methods.{members_of}
use Rattle.link_check.proofs.overriding.implemented.methods_kind.Given as goal

abbrev pub invariant-loop-index : goal.invariant-loop-index
invariant-loop-index l =
    l.kind ≡ least (flat_map (λ m. cond (is_instance_method l.set m) (selected_kinds l.set l.number m) [])
    (take l.index (members_of l.set l.interface)))
