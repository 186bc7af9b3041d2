use Rattle.std.proofs.Common.{◌≡◌, take}
use Rattle.std.specs.List.{flat_map}
use Rattle.link_check.specs.Profile.{least, verification_kinds}
use Rattle.link_check.proofs.rules.instructions.verification_types_kind.Given as goal

abbrev pub invariant-loop-ty : goal.invariant-loop-ty
invariant-loop-ty l = l.kind ≡ least (flat_map (verification_kinds l.set l.number) (take l.ty-index l.types))
