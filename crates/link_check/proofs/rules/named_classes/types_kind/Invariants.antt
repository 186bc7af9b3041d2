use Rattle.std.proofs.Common.{◌≡◌, take}
use Rattle.std.specs.List.{flat_map}
use Rattle.link_check.specs.Profile.{least, type_kinds}
use Rattle.link_check.proofs.rules.named_classes.types_kind.Given as goal

abbrev pub invariant-loop-ty : goal.invariant-loop-ty
invariant-loop-ty l = l.kind ≡ least (flat_map (type_kinds l.set l.number) (take l.ty-index l.types))
