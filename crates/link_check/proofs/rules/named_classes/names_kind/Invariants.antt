use Rattle.std.proofs.Common.{◌≡◌, take}
use Rattle.std.specs.List.{flat_map}
use Rattle.link_check.specs.Profile.{least, name_kinds}
use Rattle.link_check.proofs.rules.named_classes.names_kind.Given as goal

abbrev pub invariant-loop-name : goal.invariant-loop-name
invariant-loop-name l = l.kind ≡ least (flat_map (name_kinds l.set l.number) (take l.name-index l.names))
